-- The loop over the entries: each is sound over those before it, and the marks are those after them. Assumes nothing.
use Prim.Native.Nat.{ℕ, suc, ◌+◌, ◌*◌, ◌-◌, ◌%◌, ◌/◌, ◌≤◌, ◌<◌}
use mathlib.Core.Path.{◌≡◌, refl, sym, ◌∙◌, ap}
use mathlib.Core.Logic.{⊎_elim}
use mathlib.Core.Bool.{Bool, true, false, cond, not, ◌&&◌, ◌||◌}
use mathlib.Core.List.{List, [], ◌∷◌, ◌++◌}
use native.Mathlib.Omega.{arith}
use native.Mathlib.Nat.{add-zero}
use lib.Dec.{T, eqb, ltb}
use lib.ListN.{length, set, replicate, length-set, length-replicate}
use borrow.Author.Tests.{ltb-true, eqb-true}
use Rattle.lts.specs.declared.Entry.{Entry}
use Rattle.lts.specs.Bounded.{list_below}
use Rattle.lts.specs.System.{Rel, Lts, WellFormed, reflexive}
use Rattle.lts.specs.Strategy.{all_sound, accepted, entries_of}
use Rattle.lts.specs.Depth.{depth_of}
use Rattle.lts.proofs.Below.{clash, either, true-T, T_true, and-fst, and-snd, all-not, list_below-add}
use Rattle.lts.proofs.Lists.{all_more}
use Rattle.lts.proofs.Bounded.{or_elim}
use Rattle.transitions.specs.Table.{states_of, table_lts, Formed}
use Rattle.transitions.proofs.Entries.{table-formed}
use Rattle.strategy_depth.specs.Marks.{mark_of, lowered, Marked, entry_mark}
use Rattle.strategy_depth.proofs.Steps.{marked-none, mark-is, marked_more}
use Rattle.strategy_depth.proofs.Replies.{entry-some}
use Rattle.strategy_check.specs.Entries.{entry_of, replies_held, outside, sound_over, sound_at, Marking, strategy_mark}
use Rattle.strategy_check.proofs.Entries.{accepted-some, all-sound-at, entries_below}

pub table-few : (table : List ℕ) → Formed table → (table_lts table).states ≤ 256
unfolding table_lts
table-few table ok = ok.states

-- ---- one entry

-- what a sound entry's numbers are below
pub sound-below : (table : List ℕ) (start : Rel) (xs : List ℕ) (e p q a t : ℕ) → Formed table → sound_over (table_lts table) start xs e p q a t ≡ true
    → (p < states_of table) × (q < states_of table) × (t < 256)
unfolding sound_over outside table_lts
sound-below table start xs e p q a t ok h =
    let L = table_lts table in
    let both = and-fst (ltb p (states_of table) && ltb q (states_of table)) (outside start p q a t || L.transition p a t && replies_held L xs e q a t) h in
    let low : t < 256 = or_elim (outside start p q a t) (L.transition p a t && replies_held L xs e q a t)
    (λ o. let z = eqb-true t 0 (and-snd (eqb a 0) (eqb t 0) (and-fst (eqb a 0 && eqb t 0) (not (start p q)) (T_true _ o))) in omega (arith, z))
    (λ m. let l = (table-formed table ok).target p a t (true-T _ (and-fst (L.transition p a t) (replies_held L xs e q a t) (T_true _ m))) in omega (arith, l, ok.states))
    (true-T _ (and-snd (ltb p (states_of table) && ltb q (states_of table)) (outside start p q a t || L.transition p a t && replies_held L xs e q a t) h)) in
    (ltb-true _ _ (and-fst (ltb p (states_of table)) (ltb q (states_of table)) both), ltb-true _ _ (and-snd (ltb p (states_of table)) (ltb q (states_of table)) both), low)

module _ (L : Lts) (start : Rel) (xs : List ℕ) (e : ℕ) where
  -- with the numbers as they were read
  pub sound-read : {x : Entry} → x ≡ entry_of xs e → sound_over L start xs e x.p x.q x.a x.t ≡ sound_at L start xs e
  unfolding sound_at entry_of
  sound-read is = ap (λ (x : Entry). sound_over L start xs e x.p x.q x.a x.t) is

module _ (L : Lts) (start : Rel) (xs : List ℕ) (e : ℕ) (marks : List ℕ) where
  pub marking-unsound : sound_at L start xs e ≡ false → Marking L start xs e marks 0 marks
  marking-unsound f = record { unsound = λ _. (refl, refl); own = λ t. absurd (clash t f); pair = λ t. absurd (clash t f) }

  pub marking-sound : {mark p q a t : ℕ} {x : Entry} {other : List ℕ} → x ≡ entry_of xs e → sound_at L start xs e ≡ true
      → p ≡ x.p → q ≡ x.q → a ≡ x.a → t ≡ x.t
      → mark ≡ entry_mark L (mark_of marks) q a t → other ≡ set marks (256 * p + q) (lowered (mark_of marks p q) mark % 65536)
      → Marking L start xs e marks mark other
  marking-sound is u ep eq ea et m o = record {
    unsound = λ f. absurd (clash u f);
    own = λ _. rw (← is, ← eq, ← ea, ← et) m;
    pair = λ _. rw (← is, ← ep, ← eq) o;
  }

-- ---- the mark of a strategy

module _ (L : Lts) (start : Rel) (es : List Entry) {mark : ℕ} (is : mark ≡ strategy_mark L start es) where
  pub unaccepted-mark : mark ≡ 0 → false ≡ accepted L start es
  unfolding strategy_mark
  unaccepted-mark z = go (accepted L start es) is
    where
      go : (b : Bool) → mark ≡ cond b (suc (depth_of L es)) 0 → false ≡ b
      go true e = absurd (omega (arith, e, z))
      go false e = refl

  pub accepted-mark : (mark ≡ 0 → ⊥) → (true ≡ accepted L start es) × (mark - 1 ≡ depth_of L es)
  unfolding strategy_mark
  accepted-mark h = go (accepted L start es) is
    where
      go : (b : Bool) → mark ≡ cond b (suc (depth_of L es)) 0 → (true ≡ b) × (mark - 1 ≡ depth_of L es)
      go true e = (refl, omega (arith, e))
      go false e = absurd (h e)

-- ---- the entries up to number e

accepted-more : (L : Lts) (start : Rel) (es : List Entry) (e : Entry) → accepted L start (es ++ e ∷ []) ≡ all_sound L start [] (es ++ e ∷ [])
unfolding accepted
accepted-more L start [] e = refl
accepted-more L start (x ∷ es) e = refl

pub record Checking (L : Lts) (start : Rel) (xs : List ℕ) (e : ℕ) (marks : List ℕ) (last : ℕ) : Type 0 where
  pub long : length marks ≡ 65536
  pub all : all_sound L start [] (list_below e (entry_of xs)) ≡ true
  pub marked : Marked L (list_below e (entry_of xs)) marks
  pub mark : last ≡ strategy_mark L start (list_below e (entry_of xs))

module _ (L : Lts) (start : Rel) (xs : List ℕ) where
  pub checking-none : Checking L start xs 0 (replicate {A = ℕ} 65536 0) 0
  unfolding list_below all_sound accepted strategy_mark
  checking-none = record { long = length-replicate {A = ℕ} 65536 0; all = refl; marked = marked-none L 65536; mark = refl }

  module _ (e : ℕ) {marks other : List ℕ} {last mark : ℕ} (known : Checking L start xs e marks last) (step : Marking L start xs e marks mark other) where
    abbrev es : List Entry
    es = list_below e (entry_of xs)

    abbrev entry : Entry
    entry = entry_of xs e

    pub checking-stop : (count : ℕ) → count ≡ length xs / 4 → e < count → mark ≡ 0 → 0 ≡ strategy_mark L start (entries_of xs)
    unfolding strategy_mark
    checking-stop count size l z =
        let none = ⊎_elim (λ t. absurd (let m = step.own t in let s = entry-some L (mark_of marks) entry.q entry.a entry.t in omega (arith, z, m, s))) (λ f. f) (either (sound_at L start xs e)) in
        let fails : accepted L start (entries_of xs) ≡ false =
        accepted-some L start xs (λ k. omega (arith, size, l, k)) ∙ sym (all-not (length xs / 4) (sound_at L start xs) e (omega (arith, size, l)) none) in
        sym (ap (λ (b : Bool). cond b (suc (depth_of L (entries_of xs))) 0) fails)

    module _ (wf : WellFormed L) (few : L.states ≤ 256) (loop : T (reflexive L start)) (h : mark ≡ 0 → ⊥) where
      here : sound_at L start xs e ≡ true
      here = ⊎_elim (λ t. t) (λ f. absurd (h (step.unsound f).0)) (either (sound_at L start xs e))

      longer : list_below (e + 1) (entry_of xs) ≡ es ++ entry ∷ []
      unfolding list_below
      longer = list_below-add e 1 (entry_of xs) ∙ ap (λ (i : ℕ). es ++ entry_of xs i ∷ []) (add-zero e)

      all_here : all_sound L start [] (list_below (e + 1) (entry_of xs)) ≡ true
      all_here = all-sound-at L start xs (e + 1) ∙ all_more (sound_at L start xs) e (sym (all-sound-at L start xs e) ∙ known.all) refl (ap not here)

      sounds : T (all_sound L start [] (es ++ entry ∷ []))
      sounds = true-T _ (ap (all_sound L start []) (sym longer) ∙ all_here)

      own : mark ≡ suc (depth_of L (es ++ entry ∷ []))
      own = step.own here ∙ mark-is L wf few start loop es entry sounds marks known.marked

      pub checking-more : Checking L start xs (e + 1) other mark
      unfolding strategy_mark
      checking-more = record {
        long = ap length (step.pair here) ∙ length-set marks _ _ ∙ known.long;
        all = all_here;
        marked = rw (longer, step.pair here, step.own here) (marked_more L wf few start loop es entry sounds marks known.marked (omega (arith, known.long)));
        mark = own ∙ sym (ap (strategy_mark L start) longer ∙ ap (λ (b : Bool). cond b (suc (depth_of L (es ++ entry ∷ []))) 0) (accepted-more L start es entry ∙ T_true _ sounds));
      }

  pub checking-done : (e : ℕ) {marks : List ℕ} {last : ℕ} → Checking L start xs e marks last → e ≡ length xs / 4 → last ≡ strategy_mark L start (entries_of xs)
  checking-done e known end = known.mark ∙ ap (strategy_mark L start) (sym (entries_below xs ∙ ap (λ (n : ℕ). list_below n (entry_of xs)) (sym end)))
