-- The table of a reading, entries that are judged one by one, and the answer at the end. Assumes nothing.
use Prim.Native.Nat.{ℕ, ◌+◌, ◌<◌}
use mathlib.Core.Path.{◌≡◌, refl, sym, ◌∙◌, ap, subst}
use mathlib.Core.Logic.{inl, inr, ⊎_elim}
use mathlib.Core.Bool.{Bool, true, false, cond, ◌&&◌, ◌||◌}
use mathlib.Core.List.{List, [], ◌∷◌, reverse_aux}
use native.Mathlib.Numerals.{add-one}
use native.Mathlib.Omega.{arith}
use lib.Dec.{eqb}
use lib.ListN.{length, get_or, take, drop, replicate}
use lib.Seq.{take-suc, take-length}
use borrow.Author.Tests.{eq-eqb, ne_eqb}
use Rattle.std.proofs.lemmas.List.{take-append-drop}
use Rattle.std.specs.Prelude.{Ok, Err}
use Rattle.lts.specs.declared.Entry.{Entry}
use Rattle.lts.specs.declared.Refusal.{Refusal}
use Rattle.lts.specs.declared.Refusal.TheVariants.{Unsound}
use Rattle.lts.specs.System.{Rel, Lts}
use Rattle.lts.specs.Strategy.{all_sound, accepted, last_of, blank}
use Rattle.lts.specs.Depth.{measured, first_depth, depth_of}
use Rattle.lts.specs.Rule.{Nothing, broken, Answer}
use Rattle.lts.proofs.Rule.{finding}
use Rattle.lts.proofs.Below.{clash}
use Rattle.rows.proofs.Rows.{get_or-zeros}
use Rattle.encoding.specs.declared.Header.{Header}
use Rattle.encoding.specs.Records.{header_of}
use Rattle.encoding.specs.Denotation.{lts_of}
use Rattle.transitions.specs.Table.{states_of, table_lts, Holds}
use Rattle.relation.specs.Matrix.{relation_of}
use Rattle.inputs.specs.Inputs.{input_rules, read_inputs}
use Rattle.inputs.proofs.Laws.{reading-refused, reading-passed, input-broken, input-kept, kept-ready}
use Rattle.strategy.specs.declared.Accepted.{Accepted}
use Rattle.strategy.specs.Check.{accepted_with, check_reply, start_of, check_call}
use Rattle.strategy.proofs.Loads.{loaded-states, loaded-matrix, loaded-reflexive}
use Rattle.strategy.proofs.Checks.{unready, unsound, accepts}
use Rattle.strategy_depth.proofs.Steps.{marked-none}
use Rattle.strategy_judge.specs.Judging.{answer_for, Noted, Judging, Judges, Judgeable, ReadBy, Loads, verdict_at, Concludes}
use Rattle.strategy_judge.proofs.Steps.{all-sound-append}

-- ---- the table

pub loads-full : (s : List ℕ) {reading : Answer Header} {h : Header} {t : List ℕ} → reading ≡ Ok h → Holds (lts_of s) t → Loads s reading t
loads-full s e k = record { full = λ _ _. k; empty = λ r f. cc }

pub loads-empty : (s : List ℕ) {reading : Answer Header} {r : Refusal} → reading ≡ Err r → Loads s reading (replicate {A = ℕ} 3588 0)
loads-empty s e = record { full = λ h f. let z : true ≡ false = cc in absurd (clash refl z); empty = λ _ _. get_or-zeros 3588 0 }

module _ (s start : List ℕ) {reading : Answer Header} (read : reading ≡ read_inputs s start) where
  pub read_by : ReadBy s reading
  read_by h e = let k = input-kept s start (sym read ∙ e) in (kept-ready s start k.1 k.0).readable

  module _ {t : List ℕ} (loads : Loads s reading t) where
    module _ (kept : broken (input_rules s start) ≡ Nothing) where
      holds-sheet : Holds (lts_of s) t
      unfolding read_inputs
      holds-sheet = loads.full (header_of s) (read ∙ sym (reading-passed (input_rules s start) (header_of s) kept))

      size : states_of t ≡ (header_of s).states
      size = loaded-states s (header_of s) start (kept-ready s start refl kept) holds-sheet

      -- what was judged on the table was judged on the sheet
      pub judged-sheet : (es : List Entry) {judged : List ℕ} → Judging (table_lts t) (relation_of (states_of t) start) es judged → Judging (lts_of s) (start_of s start) es judged
      judged-sheet es {judged} known =
          subst (λ (L : Lts). Judging L (start_of s start) es judged) holds-sheet.same
          (subst (λ (n : ℕ). Judging (table_lts t) (relation_of n start) es judged) size known)

    pub loaded-judgeable : Judgeable t start
    unfolding read_inputs
    loaded-judgeable = ⊎_elim
        (λ e.
        let ready = kept-ready s start refl e in
        inl ((holds-sheet e).formed, loaded-matrix s (header_of s) start ready (holds-sheet e), loaded-reflexive s (header_of s) start ready (holds-sheet e)))
        (λ e. inr (loads.empty e.0 (read ∙ sym (reading-refused (input_rules s start) (header_of s) e.1)))) (finding (input_rules s start))

-- ---- the first entries of a list

pub judged-none : (L : Lts) (start : Rel) (n : ℕ) → Judging L start [] (replicate {A = ℕ} n 0)
unfolding all_sound last_of measured first_depth depth_of
judged-none L start n = record {
  verdict = get_or-zeros n 65536;
  noted = λ _. record { marks = marked-none L n; first = get_or-zeros n 65537; second = get_or-zeros n 65538; depth = get_or-zeros n 65539 };
}

module _ (L : Lts) (start : Rel) (es : List Entry) (at : ℕ) {judged : List ℕ} (known : Judging L start (take at es) judged) where
  pub judged-next : (d : Entry) {other : List ℕ} → at < length es → Judges L start judged (get_or es at d) other → Judging L start (take (at + 1) es) other
  judged-next d {other} less more =
      subst (λ (l : List Entry). Judging L start l other) (sym (ap (λ (k : ℕ). take k es) (add-one at) ∙ take-suc es at d less)) (more (take at es) known)

  pub judged-all : at ≡ length es → Judging L start es judged
  judged-all e = subst (λ (l : List Entry). Judging L start l judged) (ap (λ (k : ℕ). take k es) e ∙ take-length es) known

-- ---- the answer

module _ (judged : List ℕ) (count : ℕ) where
  pub answer-unsound : eqb count 0 || eqb (get_or judged 65536 0) 1 ≡ true → Err Unsound ≡ verdict_at judged count
  unfolding verdict_at
  answer-unsound h = rw h

  pub answer-last : eqb count 0 || eqb (get_or judged 65536 0) 1 ≡ false
      → accepted_with (get_or judged 65537 0) (get_or judged 65538 0) (get_or judged 65539 0) ≡ verdict_at judged count
  unfolding verdict_at
  answer-last h = rw h

verdict-told : (L : Lts) (start : Rel) (judged : List ℕ) (count : ℕ) (es : List Entry) → length es ≡ count → Judging L start es judged
    → verdict_at judged count ≡ answer_for L start es
unfolding accepted verdict_at answer_for
verdict-told L start judged count [] h known = ap (verdict_at judged) (sym h)
verdict-told L start judged count (x ∷ es) h known =
    ap (λ (b : Bool). cond (b || eqb (get_or judged 65536 0) 1) (Err Unsound) last) some ∙ go (all_sound L start [] (x ∷ es)) known.verdict (λ e. known.noted e)
  where
    last : Answer Accepted
    last = accepted_with (get_or judged 65537 0) (get_or judged 65538 0) (get_or judged 65539 0)

    some : eqb count 0 ≡ false
    some = ne_eqb count 0 (λ d. omega (arith, h, d))

    go : (b : Bool) → get_or judged 65536 0 ≡ cond b 0 1 → (b ≡ true → Noted L (x ∷ es) judged)
        → cond (eqb (get_or judged 65536 0) 1) (Err Unsound) last ≡ cond b (accepted_with (last_of (x ∷ es)).p (last_of (x ∷ es)).q (depth_of L (x ∷ es))) (Err Unsound)
    go false v k = ap (λ (b : Bool). cond b (Err Unsound) last) (eq-eqb _ _ v)
    go true v k =
        let n = k refl in
        ap (λ (b : Bool). cond b (Err Unsound) last) (ne_eqb (get_or judged 65536 0) 1 (λ d. omega (arith, v, d)))
        ∙ rw (n.first, n.second, n.depth)

by-answer : (s start : List ℕ) (es : List Entry) {n : ℕ} → n ≡ (header_of s).states → broken (input_rules s start) ≡ Nothing
    → check_call s start es ≡ check_reply (answer_for (lts_of s) (relation_of n start) es)
unfolding answer_for
by-answer s start es {n} size kept = go _ refl
  where
    go : (b : Bool) → b ≡ accepted (lts_of s) (relation_of n start) es
        → check_call s start es ≡ check_reply (cond b (accepted_with (last_of es).p (last_of es).q (depth_of (lts_of s) es)) (Err Unsound))
    go true t = accepts s start es n size kept t refl refl refl refl
    go false t = unsound s start es n size kept t refl

module _ {reading : Answer Header} (judged : List ℕ) (count : ℕ) where
  pub concludes-refused : {r : Refusal} → reading ≡ Err r → Concludes reading judged count (Err r)
  concludes-refused e s start read es n known = unready s start es (input-broken s start (sym read ∙ e))

  pub concludes-read : {h : Header} {r : Answer Accepted} → reading ≡ Ok h → r ≡ verdict_at judged count → Concludes reading judged count r
  concludes-read e f s start read es n known =
      let kept = (input-kept s start (sym read ∙ e)).0 in
      by-answer s start es refl kept ∙ ap check_reply (sym (f ∙ verdict-told (lts_of s) (start_of s start) judged count es n (known kept)))

-- ---- the entries that a function gives: an end at the first unsound one

-- where the first are unsound, all are
front-unsound : (L : Lts) (start : Rel) (es : List Entry) (k : ℕ) → all_sound L start [] (take k es) ≡ false → accepted L start es ≡ false
unfolding all_sound accepted
front-unsound L start [] k f = refl
front-unsound L start (x ∷ es) k f =
    let l = x ∷ es in
    ap (all_sound L start []) (sym (take-append-drop k l)) ∙ all-sound-append L start [] (take k l) (drop k l)
    ∙ ap (λ (b : Bool). b && all_sound L start (reverse_aux (take k l) []) (drop k l)) f

-- where the verdict has fallen, an entry was unsound
fallen : (L : Lts) (start : Rel) (es : List Entry) {judged : List ℕ} → Judging L start es judged → get_or judged 65536 0 ≡ 1 → all_sound L start [] es ≡ false
fallen L start es {judged} known v = go (all_sound L start [] es) known.verdict
  where
    go : (b : Bool) → get_or judged 65536 0 ≡ cond b 0 1 → b ≡ false
    go false e = refl
    go true e = absurd (omega (arith, v, e))

module _ (L : Lts) (start : Rel) (es : List Entry) (at : ℕ) {judged : List ℕ} (known : Judging L start (take at es) judged) where
  pub each-next : {e : Entry} {other : List ℕ} → e ≡ get_or es at blank → at < length es → Judges L start judged e other → Judging L start (take (at + 1) es) other
  each-next {e} {other} is less judges =
      judged-next L start es at known blank less (subst (λ (x : Entry). Judges L start judged x other) is judges)

module _ (s start : List ℕ) {h : Header} (read : Ok h ≡ read_inputs s start) {t : List ℕ} (k : Holds (lts_of s) t) where
  kept : broken (input_rules s start) ≡ Nothing
  kept = (input-kept s start (sym read)).0

  pub each-judgeable : Judgeable t start
  each-judgeable = loaded-judgeable s start read (loads-full s refl k)

  module _ (es : List Entry) {judged : List ℕ} where
    -- the end at an unsound entry, after the first `at` ones
    pub each-unsound : (at : ℕ) → Judging (table_lts t) (relation_of (states_of t) start) (take at es) judged → get_or judged 65536 0 ≡ 1
        → check_call s start es ≡ check_reply (Err Unsound)
    each-unsound at known v =
        let f = fallen (lts_of s) (start_of s start) (take at es) (judged-sheet s start read (loads-full s refl k) kept (take at es) known) v in
        unsound s start es _ refl kept (sym (front-unsound (lts_of s) (start_of s start) es at f)) refl

    -- the end behind the last one
    pub each-answered : {count : ℕ} {r : Answer Accepted} → length es ≡ count → Judging (table_lts t) (relation_of (states_of t) start) es judged → r ≡ verdict_at judged count
        → check_call s start es ≡ check_reply r
    each-answered {count} n known e =
        concludes-read judged count refl e s start read es n (λ f. judged-sheet s start read (loads-full s refl k) f es known)

pub each-refused : (s start : List ℕ) (es : List Entry) {r : Refusal} → Err r ≡ read_inputs s start → check_call s start es ≡ check_reply (Err r)
each-refused s start es read = unready s start es (input-broken s start (sym read))
