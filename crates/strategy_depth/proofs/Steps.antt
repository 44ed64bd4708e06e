-- One entry more: the marks give its depth, and are lowered to the marks after it. Assumes nothing.
use Prim.Native.Nat.{ℕ, suc, ◌+◌, ◌*◌, ◌-◌, ◌%◌, ◌≤◌, ◌<◌}
use mathlib.Core.Path.{◌≡◌, refl, sym, ◌∙◌, ap, ap₂}
use mathlib.Core.Logic.{◌⊎◌, inl, inr}
use mathlib.Core.Bool.{Bool, true, false, cond, not, ◌&&◌}
use mathlib.Core.List.{List, [], ◌∷◌, ◌++◌, reverse_aux}
use native.Mathlib.Omega.{arith}
use native.Mathlib.Nat.{mul-le-mul}
use native.Mathlib.Numerals.{add-one}
use lib.Dec.{T, eqb}
use lib.ListN.{length, get_or, set, replicate}
use lib.Seq.{get_or-set_same, get_or-set_other}
use borrow.Author.Tests.{eq-eqb, eqb-true}
use Rattle.lts.specs.declared.Entry.{Entry}
use Rattle.lts.specs.Bounded.{largest_below}
use Rattle.lts.specs.System.{Rel, Lts, WellFormed, reflexive}
use Rattle.lts.specs.Strategy.{holds, sound, all_sound}
use Rattle.lts.specs.Depth.{Measured, least_depth, depth_over, measure, measured, depth_of}
use Rattle.lts.proofs.Below.{clash, bool_iff, and-fst, and-snd, true-T, T_true}
use Rattle.lts.proofs.Count.{largest-some}
use Rattle.lts.proofs.Depth.{reply, depth-zero, depth-suc, depth-reply, measured-snoc, depth-snoc, sound-cases, sound-states, sound-before, replies-measured, entry-most}
use Rattle.rows.proofs.Rows.{get_or-zeros}
use Rattle.strategy_depth.specs.Marks.{mark_of, lowered, mark_after, Marked, entry_mark}
use Rattle.strategy_depth.proofs.Marks.{lowered-most, after-least, after_holds}
use Rattle.strategy_depth.proofs.Replies.{depth_is, entry-outside, entry-moved}

-- two pairs have one place exactly if they are one
pub pair_same : (p q x y : ℕ) → q < 256 → y < 256 → eqb (256 * p + q) (256 * x + y) ≡ (eqb x p && eqb y q)
pair_same p q x y lq ly = bool_iff
    (λ h. let e = eqb-true (256 * p + q) (256 * x + y) h in
    let a : x ≡ p = omega (arith, e, lq, ly) in
    let b : y ≡ q = omega (arith, e, lq, ly) in
    rw (eq-eqb x p a, eq-eqb y q b))
    (λ h. eq-eqb (256 * p + q) (256 * x + y) (
    let a = eqb-true x p (and-fst (eqb x p) (eqb y q) h) in
    let b = eqb-true y q (and-snd (eqb x p) (eqb y q) h) in
    omega (arith, a, b)))

-- no marks
pub marked-none : (L : Lts) (n : ℕ) → Marked L [] (replicate {A = ℕ} n 0)
unfolding measured mark_after
marked-none L n p q _ _ = get_or-zeros n (256 * p + q)

-- a mark exactly for a pair that is held
pub marked-holds : (L : Lts) (es : List Entry) (marks : List ℕ) → Marked L es marks → (p q : ℕ) → p < 256 → q < 256
    → not (eqb (mark_of marks p q) 0) ≡ holds es p q
marked-holds L es marks known p q lp lq = ap (λ (k : ℕ). not (eqb k 0)) (known p q lp lq) ∙ after_holds L es p q

module _ (L : Lts) (wf : WellFormed L) (few : L.states ≤ 256) (start : Rel) (loop : T (reflexive L start))
    (es : List Entry) (e : Entry) (sounds : T (all_sound L start [] (es ++ e ∷ []))) (marks : List ℕ) (known : Marked L es marks) where
  abbrev ms : List Measured
  ms = measured L [] es

  abbrev depth : ℕ
  depth = depth_over L (least_depth ms) e

  sound-here : T (sound L start (reverse_aux es []) e)
  sound-here = sound-before L wf start es e [] sounds

  pub pair-states : (e.p < 256) × (e.q < 256)
  pair-states = let l = sound-states L wf start (reverse_aux es []) e sound-here in (omega (arith, l.0, few), omega (arith, l.1, few))

  reply-marked : 1 ≤ e.a → e.t < L.states → (r : ℕ) → L.transition e.q e.a r ≡ true → mark_of marks e.t r ≡ suc (least_depth ms e.t r)
  reply-marked h lt r m =
      let l = wf.target e.q e.a r (true-T _ m) in
      known e.t r (omega (arith, lt, few)) (omega (arith, l, few)) ∙ after-least ms e.t r _ (replies-measured L wf start es e [] sounds r (true-T _ m))

  -- by a transition into a state
  mark-moved : 1 ≤ e.a → e.t < L.states → entry_mark L (mark_of marks) e.q e.a e.t ≡ suc depth
  mark-moved h lt =
      sym (entry-moved L (mark_of marks) e.q e.a e.t (λ z. omega (arith, z, h)) refl)
      ∙ add-one _ ∙ ap suc (sym (depth_is L (mark_of marks) e.q e.a e.t depth (omega (arith, d)) each (taken (largest-some L.states (L.transition e.q e.a) (least_depth ms e.t)))))
    where
      top : ℕ
      top = largest_below L.states (reply L wf (least_depth ms) e)

      d : depth ≡ suc top
      d = depth-suc L wf (least_depth ms) e h

      each : (r : ℕ) → L.transition e.q e.a r ≡ true → (0 < mark_of marks e.t r) × (mark_of marks e.t r ≤ depth)
      each r m =
          let k = reply-marked h lt r m in
          let l = depth-reply L wf (least_depth ms) e r (true-T _ m) in
          (omega (arith, k), omega (arith, k, l, d))

      taken : (top ≡ 0) ⊎ ((j : ℕ) × T (L.transition e.q e.a j) × (least_depth ms e.t j ≡ top))
          → (depth ≡ 1) ⊎ ((r : ℕ) × (r < L.states) × (L.transition e.q e.a r ≡ true) × (depth ≡ mark_of marks e.t r))
      taken (inl z) = inl (omega (arith, d, z))
      taken (inr j) =
          let m = T_true _ j.1 in
          inr (j.0, wf.target e.q e.a j.0 j.1, m, omega (arith, d, j.2, reply-marked h lt j.0 m))

  mark-here : entry_mark L (mark_of marks) e.q e.a e.t ≡ suc depth
  mark-here =
      sound-cases L wf start (reverse_aux es []) e (entry_mark L (mark_of marks) e.q e.a e.t ≡ suc depth) sound-here
      (λ z _. sym (entry-outside L (mark_of marks) e.q e.a e.t z) ∙ ap suc (sym (depth-zero L wf (least_depth ms) e z)))
      (λ h m _. mark-moved h (wf.target e.p e.a e.t m))

  -- the entry's mark is one more than its depth
  pub mark-is : entry_mark L (mark_of marks) e.q e.a e.t ≡ suc (depth_of L (es ++ e ∷ []))
  mark-is = mark-here ∙ ap suc (sym (depth-snoc L es e))

  pub mark-small : entry_mark L (mark_of marks) e.q e.a e.t < 65536
  unfolding measure
  mark-small =
      let m = entry-most L wf start loop es e [] sounds in
      let less : L.states - 1 ≤ 255 = omega (arith, few) in
      let k : L.states * (L.states - 1) ≤ 256 * 255 = mul-le-mul few less in
      omega (arith, mark-here, m, k)

  -- and its pair's mark is lowered to it
  pub marked_more : 65536 ≤ length marks
      → Marked L (es ++ e ∷ []) (set marks (256 * e.p + e.q) (lowered (mark_of marks e.p e.q) (entry_mark L (mark_of marks) e.q e.a e.t) % 65536))
  unfolding mark_after measure
  marked_more long p q lp lq =
      go (eqb (256 * p + q) (256 * e.p + e.q)) refl ∙ sym (ap (λ (l : List Measured). mark_after l p q) (measured-snoc L [] es e))
    where
      same : eqb (256 * p + q) (256 * e.p + e.q) ≡ (eqb e.p p && eqb e.q q)
      same = pair_same p q e.p e.q lq pair-states.1

      new : ℕ
      new = lowered (mark_of marks e.p e.q) (entry_mark L (mark_of marks) e.q e.a e.t)

      small : new % 65536 ≡ new
      small = omega (arith, lowered-most (mark_of marks e.p e.q) (entry_mark L (mark_of marks) e.q e.a e.t), mark-small)

      go : (b : Bool) → eqb (256 * p + q) (256 * e.p + e.q) ≡ b
          → get_or (set marks (256 * e.p + e.q) (new % 65536)) (256 * p + q) 0
          ≡ cond (eqb e.p p && eqb e.q q) (lowered (mark_after ms p q) (suc depth)) (mark_after ms p q)
      go false h =
          get_or-set_other marks (256 * e.p + e.q) (256 * p + q) (new % 65536) 0 (λ z. clash (eq-eqb _ _ z) h) ∙ known p q lp lq
          ∙ sym (ap (λ (b : Bool). cond b (lowered (mark_after ms p q) (suc depth)) (mark_after ms p q)) (sym same ∙ h))
      go true h =
          let at = eqb-true (256 * p + q) (256 * e.p + e.q) h in
          let l = pair-states in
          ap (λ (i : ℕ). get_or (set marks (256 * e.p + e.q) (new % 65536)) i 0) at
          ∙ get_or-set_same marks (256 * e.p + e.q) (new % 65536) 0 (omega (arith, long, l))
          ∙ small ∙ ap₂ (λ (i m : ℕ). lowered (get_or marks i 0) m) (sym at) mark-here ∙ ap (λ (k : ℕ). lowered k (suc depth)) (known p q lp lq)
          ∙ sym (ap (λ (b : Bool). cond b (lowered (mark_after ms p q) (suc depth)) (mark_after ms p q)) (sym same ∙ h))
