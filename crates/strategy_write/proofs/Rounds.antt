-- The entries of a round, from the matrices of two rounds. Assumes nothing.
use Prim.Native.Nat.{ℕ, zero, suc, ◌+◌, ◌*◌, ◌≤◌, ◌<◌, suc-le-suc}
use mathlib.Core.Path.{◌≡◌, refl, sym, ◌∙◌, ap, ap₂, subst, subst⁻¹}
use mathlib.Core.Bool.{Bool, true, false, cond, not, ◌&&◌}
use mathlib.Core.List.{List, [], ◌∷◌, ◌++◌}
use native.Mathlib.Nat.{lt-suc_self, le_step}
use native.Mathlib.Numerals.{add-one}
use native.Mathlib.Omega.{arith}
use borrow.Author.Tests.{ne_eqb}
use lib.Dec.{eqb}
use lib.ListN.{length, drop, length-append}
use lib.Seq.{sets, sets-eq}
use Rattle.lts.specs.Bounded.{concat_below}
use Rattle.lts.specs.System.{Rel, Lts, answered}
use Rattle.lts.specs.Rounds.{round, refuted_at, refutation_round}
use Rattle.lts.specs.declared.Entry.{Entry}
use Rattle.lts.specs.Strategy.{entry_numbers, entry_at, entries_in, entries_before, strategy_at, strategy, strategy_length}
use Rattle.lts.proofs.Bounded.{restrict-at, restrict-same}
use Rattle.lts.proofs.Strategy.{strategy-count}
use Rattle.lts.proofs.Below.{clash, lowest-at}
use Rattle.transitions.specs.Table.{states_of, table_lts, Formed}
use Rattle.transitions.proofs.Entries.{table-formed}
use Rattle.relation.specs.Matrix.{relation_of, matrix_of}
use Rattle.relation.proofs.Matrices.{relation-of, formed-of}
use Rattle.strategy_rounds.specs.Rounds.{next_round}
use Rattle.strategy_rounds.proofs.Steps.{round-inside}
use Rattle.strategy_write.specs.Writing.{pairs_of, Consecutive, entry_from, cell_entries, row_entries, round_entries, previous, WrittenBefore}
use Rattle.lts.proofs.Lists.{sets-append}
use Rattle.strategy_write.proofs.Writes.{numbers-append, length-numbers}

concat-cong : (n : ℕ) (f g : ℕ → List Entry) → ((i : ℕ) → i < n → f i ≡ g i) → concat_below n f ≡ concat_below n g
unfolding concat_below
concat-cong zero f g h = refl
concat-cong (suc n) f g h = ap₂ (λ (x y : List Entry). x ++ y) (concat-cong n f g (λ i l. h i (le_step l))) (h n (lt-suc_self n))

-- what was written from a copy of the start
pub from_start : {t d start copy current numbers : List ℕ} {r at : ℕ} → copy ≡ start → WrittenBefore t copy d r at current numbers → WrittenBefore t start d r at current numbers
from_start {t} {d} {start} {copy} {current} {numbers} {r} {at} e w = subst (λ (l : List ℕ). WrittenBefore t l d r at current numbers) e w

module _ (t : List ℕ) (start : Rel) where
  abbrev n : ℕ
  n = states_of t

  abbrev L : Lts
  L = table_lts t

  -- the relation of a round's matrix
  pub held : (j : ℕ) {g : List ℕ} → g ≡ matrix_of n (round L start j) → pairs_of t g ≡ round L start j
  unfolding table_lts
  held j {g} e = restrict-same n (relation_of n g) (round L start j) (λ p q hp hq. relation-of n (round L start j) e p q hp hq) ∙ round-inside L start j

  -- the matrix of a round is that which the next looks at
  pub previous-next : (j : ℕ) {g : List ℕ} → g ≡ matrix_of n (round L start j) → g ≡ matrix_of n (previous L start (j + 1))
  unfolding previous
  previous-next j e = e ∙ ap (λ (i : ℕ). matrix_of n (previous L start i)) (sym (add-one j))

  pub previous-first : {g : List ℕ} → g ≡ matrix_of n (λ p q. true) → g ≡ matrix_of n (previous L start 0)
  unfolding previous
  previous-first e = e

  round-follows : (i : ℕ) {g h : List ℕ} → g ≡ matrix_of n (previous L start i) → h ≡ matrix_of n (round L start i)
      → eqb i 0 ≡ false → pairs_of t h ≡ next_round L (pairs_of t g)
  unfolding previous next_round round
  round-follows zero e f z = absurd (clash refl z)
  round-follows (suc j) e f z = held (suc j) f ∙ ap (next_round L) (sym (held j e))

  pub consecutive : (i : ℕ) {g h : List ℕ} → Formed t → g ≡ matrix_of n (previous L start i) → h ≡ matrix_of n (round L start i) → Consecutive t (eqb i 0) g h
  consecutive i ok e f = record { formed = ok; before = formed-of n _ e; after = formed-of n _ f; follows = round-follows i e f }

  pub round-entries : (i : ℕ) {g h : List ℕ} → g ≡ matrix_of n (previous L start i) → h ≡ matrix_of n (round L start i)
      → round_entries L (eqb i 0) (pairs_of t g) (pairs_of t h) ≡ entries_in L start i
  unfolding round_entries row_entries cell_entries entries_in entry_from entry_at refuted_at previous table_lts
  round-entries zero {g} {h} e f = concat-cong n _ _ (λ p hp. concat-cong n _ _ (λ q hq.
      ap₂ (λ (x y : Bool). cond (x && not y) (entry_at L start zero p q ∷ []) [])
      (restrict-at n (relation_of n g) p q hp hq ∙ relation-of n (λ p q. true) e p q hp hq)
      (ap (λ (W : Rel). W p q) (held zero f))))
  round-entries (suc j) {g} {h} e f =
      ap (λ (b : Bool). round_entries L b (pairs_of t g) (pairs_of t h)) (ne_eqb (suc j) 0 (λ z. omega (arith, z)))
      ∙ ap₂ (λ (B A : Rel). round_entries L false B A) (held j e) (held (suc j) f)

  -- ---- the whole strategy

  module _ (ok : Formed t) (p q r : ℕ) (is : r ≡ refutation_round L start p q) (falls : r ≤ n * n) where
    falls_at : refuted_at L start r p q ≡ true
    unfolding refutation_round table_lts
    falls_at =
        subst⁻¹ (λ (j : ℕ). refuted_at L start j p q ≡ true) is
        (lowest-at (suc (n * n)) (λ j. refuted_at L start j p q) (subst (λ (j : ℕ). j < suc (n * n)) is (suc-le-suc falls)))

    pub last-unanswered : {g : List ℕ} → g ≡ matrix_of n (previous L start r) → eqb r 0 ≡ false → answered L (pairs_of t g) p q ≡ false
    unfolding refuted_at round previous
    last-unanswered {g} = go r falls_at
      where
        lacking : (x y : Bool) → x && not (x && y) ≡ true → y ≡ false
        lacking true true e = absurd (clash e refl)
        lacking true false e = refl
        lacking false y e = absurd (clash e refl)

        go : (r : ℕ) → refuted_at L start r p q ≡ true → g ≡ matrix_of n (previous L start r) → eqb r 0 ≡ false → answered L (pairs_of t g) p q ≡ false
        go zero u e z = absurd (clash refl z)
        go (suc j) u e z = ap (λ (W : Rel). answered L W p q) (held j (e ∙ refl)) ∙ lacking (round L start j p q) (answered L (round L start j) p q) u

    last_entry : {g : List ℕ} → g ≡ matrix_of n (previous L start r) → entry_from L (eqb r 0) (pairs_of t g) p q ≡ entry_at L start r p q
    unfolding entry_from entry_at previous
    last_entry {g} = go r
      where
        go : (r : ℕ) → g ≡ matrix_of n (previous L start r) → entry_from L (eqb r 0) (pairs_of t g) p q ≡ entry_at L start r p q
        go zero e = refl
        go (suc j) e =
            ap (λ (b : Bool). entry_from L b (pairs_of t g) p q) (ne_eqb (suc j) 0 (λ z. omega (arith, z)))
            ∙ ap (λ (W : Rel). entry_from L false W p q) (held j e)

    count : length (entries_before L start r) + 1 ≡ strategy_length L start p q
    unfolding strategy strategy_at
    count =
        ap (λ (j : ℕ). length (entries_before L start j) + 1) is
        ∙ sym (length-append (entries_before L start (refutation_round L start p q)) (entry_at L start (refutation_round L start p q) p q ∷ []))
        ∙ strategy-count L (table-formed t ok) start p q

    pub room-before : {size : ℕ} → 4 * strategy_length L start p q ≤ size → 4 * length (entries_before L start r) ≤ size
    room-before h = let c = count in omega (arith, c, h)

    pub room-last : {size at : ℕ} → 4 * strategy_length L start p q ≤ size → at ≡ length (entries_before L start r) → 4 * (at + 1) ≤ size
    room-last h e = let c = count in omega (arith, c, h, e)

    pub strategy-written : (d : List ℕ) {g x y : List ℕ} {at : ℕ} → g ≡ matrix_of n (previous L start r) → 4 * strategy_length L start p q ≤ length d
        → at ≡ length (entries_before L start r) → x ≡ sets d 0 (entry_numbers (entries_before L start r))
        → y ≡ sets x (4 * at) (entry_numbers (entry_from L (eqb r 0) (pairs_of t g) p q ∷ []))
        → y ≡ entry_numbers (strategy L start p q) ++ drop (4 * strategy_length L start p q) d
    unfolding strategy strategy_at
    strategy-written d {g} {x} {y} {at} e room a b z =
        let es = entries_before L start r in
        let one = entry_at L start r p q ∷ [] in
        let size = length-numbers es in
        let place : 4 * at ≡ 0 + length (entry_numbers es) = omega (arith, a, size) in
        let whole : es ++ one ≡ strategy L start p q = ap (λ (j : ℕ). entries_before L start j ++ (entry_at L start j p q ∷ [])) is in
        let total : length (entry_numbers (strategy L start p q)) ≡ 4 * strategy_length L start p q =
        length-numbers (strategy L start p q) ∙ ap (λ (c : ℕ). 4 * c) (strategy-count L (table-formed t ok) start p q) in
        let end : 0 + length (entry_numbers (strategy L start p q)) ≡ 4 * strategy_length L start p q = omega (arith, total) in
        let fits : 0 + length (entry_numbers (strategy L start p q)) ≤ length d = omega (arith, total, room) in
        z ∙ ap (λ (v : Entry). sets x (4 * at) (entry_numbers (v ∷ []))) (last_entry e)
        ∙ ap₂ (λ (l : List ℕ) (i : ℕ). sets l i (entry_numbers one)) b place
        ∙ sym (sets-append d 0 (entry_numbers es) (entry_numbers one))
        ∙ ap (sets d 0) (sym (numbers-append es one) ∙ ap entry_numbers whole)
        ∙ sets-eq (entry_numbers (strategy L start p q)) d 0 fits
        ∙ ap (λ (i : ℕ). entry_numbers (strategy L start p q) ++ drop i d) end
