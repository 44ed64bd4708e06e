-- An entry on a table, test by test: soundness over the pairs that have the mark. Assumes nothing.
use Prim.Native.Nat.{ℕ, ◌+◌, ◌≤◌, ◌<◌}
use mathlib.Core.Path.{◌≡◌, refl, sym, ◌∙◌, ap, ap₂, subst, subst⁻¹}
use mathlib.Core.Logic.{◌⊎◌, inl, inr, ⊎_elim}
use mathlib.Core.Bool.{Bool, true, false, cond, not, ◌&&◌, ◌||◌}
use mathlib.Core.List.{List}
use native.Mathlib.Omega.{arith}
use lib.Dec.{T, eqb, ltb}
use borrow.Author.Tests.{lt-ltb, le-ltb, ltb-true, eqb-true, not-true, not-false}
use Rattle.lts.specs.declared.Entry.{Entry}
use Rattle.lts.specs.Bounded.{◌⇒◌}
use Rattle.lts.specs.System.{Rel, Lts, WellFormed, all_states, reflexive}
use Rattle.lts.proofs.Below.{either, true-T, and-fst, and-snd, all-cong}
use Rattle.lts.specs.Game.{defender_loses}
use Rattle.rows.specs.Rows.{in_row, row_of}
use Rattle.rows.proofs.Rows.{in_row-of}
use Rattle.transitions.specs.Table.{states_of, table_lts, Formed}
use Rattle.transitions.proofs.Entries.{table-formed}
use Rattle.relation.specs.Matrix.{relation_of, Matrix}
use Rattle.strategy_depth.specs.Marks.{marked, reply_depth, entry_mark}
use Rattle.strategy_depth.proofs.Replies.{depth-marked, depth-unmarked, entry-outside, entry-moved, entry-some}
use Rattle.strategy_check.specs.Entries.{outside}
use Rattle.strategy_judge.specs.Judging.{sound_on, mark_over, Judgeable}

-- a transition leads to no number from the count of states on
no_target : (L : Lts) → WellFormed L → (p a r : ℕ) → L.states ≤ r → L.transition p a r ≡ false
no_target L wf p a r h = ⊎_elim (λ (e : L.transition p a r ≡ true). absurd (omega (arith, h, wf.target p a r (true-T _ e)))) (λ e. e) (either (L.transition p a r))

-- ---- a transition, and the replies to it
module _ (t : List ℕ) (ok : Formed t) (marks : ℕ → ℕ → ℕ) (p q a x : ℕ) (low : x < states_of t) where
  abbrev L : Lts
  L = table_lts t

  -- the mark where p leads to x by a and the replies have marks, by the two tests
  abbrev tested : Bool → Bool → ℕ
  tested b c = cond (b && c) (entry_mark L marks q a x) 0

  module _ {row : List ℕ} {b : Bool} (e : row ≡ row_of 4 (L.transition p a)) (f : b ≡ in_row row x) where
    leads-in : L.transition p a x ≡ b
    leads-in = sym (f ∙ ap (λ (r : List ℕ). in_row r x) e ∙ in_row-of 4 (L.transition p a) x (omega (arith, low, ok.states)))

    pub no-transition : not b ≡ true → 0 ≡ tested (L.transition p a x) (defender_loses L (marked marks) q a x)
    no-transition h = sym (ap (λ (c : Bool). tested c (defender_loses L (marked marks) q a x)) (leads-in ∙ not-true _ h))

    module _ (h : not b ≡ false) {d : ℕ} (w : d ≡ reply_depth L marks q a x) where
      leads : L.transition p a x ≡ true
      leads = leads-in ∙ not-false _ h

      pub no-mark : d ≡ 0 → 0 ≡ tested (L.transition p a x) (defender_loses L (marked marks) q a x)
      no-mark z = sym (ap₂ tested leads (depth-unmarked L marks q a x (sym w ∙ z)))

      pub replies-marked : (d ≡ 0 → ⊥) → d + 1 ≡ tested (L.transition p a x) (defender_loses L (marked marks) q a x)
      replies-marked k =
          let named = (table-formed t ok).action p a x (true-T _ leads) in
          entry-moved L marks q a x (λ z. omega (arith, z, named.0)) w ∙ sym (ap₂ tested leads (depth-marked L marks q a x (λ z. k (w ∙ z))))

-- ---- an entry, test by test: n is the count of states, and `words` the start's

-- a table with a state is formed, and the start is a matrix on its states
pub judgeable-some : (t words : List ℕ) {n p : ℕ} → Judgeable t words → n ≡ states_of t → p < n → Formed t × Matrix n words
judgeable-some t words can size h = ⊎_elim (λ k. (k.0, subst⁻¹ (λ (m : ℕ). Matrix m words) size k.1)) (λ z. absurd (omega (arith, z, size, h))) can

module _ (t words : List ℕ) (M : Rel) (e : Entry) {n : ℕ} (size : n ≡ states_of t) where
  abbrev S : Lts
  S = table_lts t

  abbrev start : Rel
  start = relation_of (states_of t) words

  pub unsound-p : n ≤ e.p → false ≡ sound_on S start M e
  unfolding sound_on table_lts
  unsound-p h = rw (le-ltb _ _ (subst (λ (m : ℕ). m ≤ e.p) size h))

  pub unsound-q : e.p < n → n ≤ e.q → false ≡ sound_on S start M e
  unfolding sound_on table_lts
  unsound-q hp h = rw (lt-ltb _ _ (subst (λ (m : ℕ). e.p < m) size hp), le-ltb _ _ (subst (λ (m : ℕ). m ≤ e.q) size h))

  module _ (hp : e.p < n) (hq : e.q < n) where
    states-in : (b : Bool) → (ltb e.p (states_of t) && ltb e.q (states_of t)) && b ≡ b
    states-in b = rw (lt-ltb _ _ (subst (λ (m : ℕ). e.p < m) size hp), lt-ltb _ _ (subst (λ (m : ℕ). e.q < m) size hq))

    outside-is : {b : Bool} → b ≡ outside (relation_of n words) e.p e.q e.a e.t → outside start e.p e.q e.a e.t ≡ b
    outside-is h = ap (λ (m : ℕ). outside (relation_of m words) e.p e.q e.a e.t) (sym size) ∙ sym h

    pub sound-outside : {b : Bool} → b ≡ outside (relation_of n words) e.p e.q e.a e.t → b ≡ true → true ≡ sound_on S start M e
    unfolding sound_on table_lts
    sound-outside h u = sym (states-in _ ∙ ap (λ (b : Bool). b || S.transition e.p e.a e.t && defender_loses S M e.q e.a e.t) (outside-is h ∙ u))

    module _ {b : Bool} (h : b ≡ outside (relation_of n words) e.p e.q e.a e.t) (f : b ≡ false) where
      inside : S.transition e.p e.a e.t && defender_loses S M e.q e.a e.t ≡ sound_on S start M e
      unfolding sound_on table_lts
      inside = sym (states-in _ ∙ ap (λ (b : Bool). b || S.transition e.p e.a e.t && defender_loses S M e.q e.a e.t) (outside-is h ∙ f))

      pub unsound-t : Formed t → n ≤ e.t → false ≡ sound_on S start M e
      unfolding table_lts
      unsound-t ok l =
          sym (ap (λ (b : Bool). b && defender_loses S M e.q e.a e.t) (no_target S (table-formed t ok) e.p e.a e.t (subst (λ (m : ℕ). m ≤ e.t) size l)))
          ∙ inside

      pub sound-inside : {c : Bool} → c ≡ S.transition e.p e.a e.t && defender_loses S M e.q e.a e.t → c ≡ sound_on S start M e
      sound-inside k = k ∙ inside

-- ---- its mark
module _ (L : Lts) (start : Rel) (marks : ℕ → ℕ → ℕ) (e : Entry) where
  pub mark-by : {x : ℕ} (b : Bool) → b ≡ sound_on L start (marked marks) e → x ≡ cond b (entry_mark L marks e.q e.a e.t) 0 → x ≡ mark_over L start marks e
  unfolding mark_over
  mark-by b h k = k ∙ ap (λ (c : Bool). cond c (entry_mark L marks e.q e.a e.t) 0) h

  -- for a = 0
  pub mark-outside : (R : Rel) {b : Bool} → true ≡ sound_on L start (marked marks) e → b ≡ outside R e.p e.q e.a e.t → b ≡ true → 1 ≡ mark_over L start marks e
  unfolding outside
  mark-outside R h o u =
      let z = eqb-true e.a 0 (and-fst (eqb e.a 0) (eqb e.t 0) (and-fst (eqb e.a 0 && eqb e.t 0) (not (R e.p e.q)) (sym o ∙ u))) in
      mark-by true h (entry-outside L marks e.q e.a e.t z)

  -- an entry has a mark exactly if it is sound
  pub mark-some : {x : ℕ} → x ≡ mark_over L start marks e → (x ≡ 0 → ⊥) → (sound_on L start (marked marks) e ≡ true) × (x ≡ entry_mark L marks e.q e.a e.t)
  unfolding mark_over
  mark-some {x} k h = go (sound_on L start (marked marks) e) k
    where
      go : (b : Bool) → x ≡ cond b (entry_mark L marks e.q e.a e.t) 0 → (b ≡ true) × (x ≡ entry_mark L marks e.q e.a e.t)
      go true w = (refl, w)
      go false w = absurd (h w)

  pub mark-none : {x : ℕ} → x ≡ mark_over L start marks e → x ≡ 0 → sound_on L start (marked marks) e ≡ false
  unfolding mark_over
  mark-none {x} k z = go (sound_on L start (marked marks) e) k
    where
      go : (b : Bool) → x ≡ cond b (entry_mark L marks e.q e.a e.t) 0 → b ≡ false
      go true w = absurd (let s = entry-some L marks e.q e.a e.t in omega (arith, z, w, s))
      go false w = refl

-- the pair of a sound entry is a pair of states
pub sound-states : (L : Lts) (start M : Rel) (e : Entry) → sound_on L start M e ≡ true → (e.p < L.states) × (e.q < L.states)
unfolding sound_on
sound-states L start M e h =
    let both = and-fst (ltb e.p L.states && ltb e.q L.states) _ h in
    (ltb-true _ _ (and-fst (ltb e.p L.states) (ltb e.q L.states) both), ltb-true _ _ (and-snd (ltb e.p L.states) (ltb e.q L.states) both))

-- Soundness depends on the earlier entries only through the pairs below 256 that they hold: transitions lead to states, of which there are
-- at most 256; and without states nothing is sound.
abbrev pub Small : Lts → Rel → Type 0
Small L start = (WellFormed L × (L.states ≤ 256) × T (reflexive L start)) ⊎ (L.states ≡ 0)

pub judgeable-small : (t words : List ℕ) → Judgeable t words → Small (table_lts t) (relation_of (states_of t) words)
unfolding table_lts
judgeable-small t words can = ⊎_elim (λ k. inl (table-formed t k.0, k.0.states, k.2)) (λ z. inr z) can

-- with a state it is a system with a reflexive start
pub small-some : (L : Lts) (start : Rel) {p : ℕ} → Small L start → p < L.states → WellFormed L × (L.states ≤ 256) × T (reflexive L start)
small-some L start small h = ⊎_elim (λ k. k) (λ z. absurd (omega (arith, z, h))) small

module _ (L : Lts) (start M N : Rel) (same : (p q : ℕ) → p < 256 → q < 256 → M p q ≡ N p q) (e : Entry) where
  replies-agree : L.states ≤ 256 → e.t < L.states → defender_loses L M e.q e.a e.t ≡ defender_loses L N e.q e.a e.t
  unfolding defender_loses all_states
  replies-agree few h =
      all-cong L.states _ _ (λ r l. ap (λ (b : Bool). L.transition e.q e.a r ⇒ b) (same e.t r (omega (arith, h, few)) (omega (arith, l, few))))

  agree : WellFormed L → L.states ≤ 256 → (L.transition e.p e.a e.t ≡ true) ⊎ (L.transition e.p e.a e.t ≡ false)
      → L.transition e.p e.a e.t && defender_loses L M e.q e.a e.t ≡ L.transition e.p e.a e.t && defender_loses L N e.q e.a e.t
  agree wf few (inr f) = ap (λ (b : Bool). b && defender_loses L M e.q e.a e.t) f ∙ sym (ap (λ (b : Bool). b && defender_loses L N e.q e.a e.t) f)
  agree wf few (inl u) = ap (λ (b : Bool). L.transition e.p e.a e.t && b) (replies-agree few (wf.target _ _ _ (true-T _ u)))

  pub sound-agree : Small L start → sound_on L start M e ≡ sound_on L start N e
  unfolding sound_on
  sound-agree (inl k) =
      ap (λ (b : Bool). ltb e.p L.states && ltb e.q L.states && (outside start e.p e.q e.a e.t || b))
      (agree k.0 k.1 (either (L.transition e.p e.a e.t)))
  sound-agree (inr z) = let none : L.states ≤ e.p = omega (arith, z) in rw (le-ltb e.p L.states none)
