-- Entries written one after the other. Assumes nothing.
use Prim.Native.Nat.{ℕ, zero, suc, ◌+◌, ◌*◌, ◌≤◌, ◌<◌, zero-le}
use mathlib.Core.Path.{◌≡◌, refl, sym, ◌∙◌, ap, ap₂, subst⁻¹}
use mathlib.Core.List.{List, [], ◌∷◌, ◌++◌}
use mathlib.Core.Bool.{Bool, true, false, not, ◌&&◌, xor}
use native.Mathlib.Omega.{arith}
use native.Mathlib.Nat.{le_refl, le_step, lt-suc_self, le_antisymm, le-suc_iff}
use mathlib.Core.Logic.{◌⊎◌, inl, inr}
use native.Mathlib.Numerals.{add-one}
use lib.ListN.{length, set, drop, length-append}
use lib.Seq.{sets, length-sets}
use Rattle.lts.specs.Bounded.{any_below, concat_below}
use Rattle.lts.proofs.Bounded.{restrict-at}
use Rattle.lts.specs.System.{Rel, Lts, answered}
use Rattle.lts.specs.declared.Entry.{Entry}
use Rattle.lts.specs.Strategy.{entry_numbers}
use Rattle.rows.specs.Rows.{in_row, row_words}
use Rattle.transitions.specs.Table.{states_of, action_at, target_at, table_lts}
use Rattle.relation.specs.Matrix.{relation_of, Matrix}
use Rattle.lts.proofs.Below.{clash, any-yes}
use Rattle.lts.proofs.Lists.{sets-append}
use Rattle.relation.proofs.Checks.{rows-differ}
use Rattle.strategy_rounds.specs.Rounds.{next_round}
use Rattle.strategy_write.specs.Writing.{pairs_of, Unanswered, entry_from, cell_entries, row_entries, round_entries}

pub numbers-append : (xs ys : List Entry) → entry_numbers (xs ++ ys) ≡ entry_numbers xs ++ entry_numbers ys
unfolding entry_numbers
numbers-append [] ys = refl
numbers-append (x ∷ xs) ys = ap (λ (l : List ℕ). x.p ∷ x.q ∷ x.a ∷ x.t ∷ l) (numbers-append xs ys)

pub length-numbers : (xs : List Entry) → length (entry_numbers xs) ≡ 4 * length xs
unfolding entry_numbers
length-numbers [] = refl
length-numbers (x ∷ xs) = let h = length-numbers xs in omega (arith, h)

-- four stores
pub put_is : (l : List ℕ) (i p q a t : ℕ) → set (set (set (set l i p) (i + 1) q) (i + 2) a) (i + 3) t ≡ sets l i (p ∷ q ∷ a ∷ t ∷ [])
put_is l i p q a t =
    let one : i + 1 ≡ suc i = omega arith in
    let two : i + 2 ≡ suc (suc i) = omega arith in
    let three : i + 3 ≡ suc (suc (suc i)) = omega arith in
    rw (one, two, three)

-- the lists f 0 .. f (c - 1) written from entry `first` on
module _ (d : List ℕ) (first : ℕ) (f : ℕ → List Entry) where
  abbrev pub written : ℕ → List ℕ
  written c = sets d (4 * first) (entry_numbers (concat_below c f))

  pub written_none : d ≡ written 0
  unfolding concat_below entry_numbers
  written_none = refl

  pub at_none : first ≡ first + length (concat_below 0 f)
  unfolding concat_below
  at_none = let e : first ≡ first + 0 = omega arith in e

  pub at_more : (c : ℕ) {at next : ℕ} → at ≡ first + length (concat_below c f) → next ≡ at + length (f c) → next ≡ first + length (concat_below (c + 1) f)
  unfolding concat_below
  at_more c a b = rw (add-one, length-append) (omega (arith, a, b))

  pub written-more : (c : ℕ) {at : ℕ} {now next : List ℕ} → now ≡ written c → at ≡ first + length (concat_below c f) → next ≡ sets now (4 * at) (entry_numbers (f c)) → next ≡ written (c + 1)
  unfolding concat_below
  written-more c {at} {now} {next} a b e =
      let done = concat_below c f in
      let size = length-numbers done in
      let place : 4 * at ≡ 4 * first + length (entry_numbers done) = omega (arith, b, size) in
      e ∙ ap (λ (l : List ℕ). sets l (4 * at) (entry_numbers (f c))) a ∙ ap (λ (j : ℕ). sets (sets d (4 * first) (entry_numbers done)) j (entry_numbers (f c))) place
      ∙ sym (sets-append d (4 * first) (entry_numbers done) (entry_numbers (f c))) ∙ ap (sets d (4 * first)) (sym (numbers-append done (f c))) ∙ ap written (sym (add-one c))

  pub written-room : (c m : ℕ) {at : ℕ} → c < m → at ≡ first + length (concat_below c f) → at + length (f c) ≤ first + length (concat_below m f)
  unfolding concat_below
  written-room c m h b = let l = concat-le (suc c) m h in let e = length-append (concat_below c f) (f c) in omega (arith, b, e, l)
    where
      concat-le : (c m : ℕ) → c ≤ m → length (concat_below c f) ≤ length (concat_below m f)
      concat-le c zero h = subst⁻¹ (λ (x : ℕ). length (concat_below x f) ≤ length (concat_below zero f)) (le_antisymm h zero-le) (le_refl _)
      concat-le c (suc m) h = go (le-suc_iff.0 h) (concat-le c m)
        where
          go : (c ≤ m) ⊎ (c ≡ suc m) → (c ≤ m → length (concat_below c f) ≤ length (concat_below m f)) → length (concat_below c f) ≤ length (concat_below (suc m) f)
          go (inl l) ih = let t = ih l in let e = length-append (concat_below m f) (f m) in omega (arith, t, e)
          go (inr e) ih = subst⁻¹ (λ (x : ℕ). length (concat_below x f) ≤ length (concat_below (suc m) f)) e (le_refl _)

  -- there is room for the next list, and the whole at the end
  pub room_next : (c m : ℕ) {at : ℕ} {now : List ℕ} → c < m → at ≡ first + length (concat_below c f) → now ≡ written c → 4 * (first + length (concat_below m f)) ≤ length d
      → 4 * (at + length (f c)) ≤ length now
  room_next c m {at} {now} h b e room =
      let l = written-room c m h b in
      let size : length now ≡ length d = ap length e ∙ length-sets d (4 * first) (entry_numbers (concat_below c f)) in
      omega (arith, l, size, room)

  pub same_size : (c : ℕ) {now : List ℕ} → now ≡ written c → length now ≡ length d
  same_size c e = ap length e ∙ length-sets d (4 * first) (entry_numbers (concat_below c f))

-- ---- one entry

pub entry-first : (L : Lts) (W : Rel) (p q : ℕ) {initial : Bool} → initial ≡ true → (record { p = p; q = q; a = 0; t = 0 }) ≡ entry_from L initial W p q
unfolding entry_from
entry-first L W p q e = rw e

pub entry-later : (t : List ℕ) (W : Rel) (p q r : ℕ) {initial : Bool} {a x : ℕ} → initial ≡ false → Unanswered t W p q r → a ≡ action_at t r → x ≡ target_at t r
    → (record { p = p; q = q; a = a; t = x }) ≡ entry_from (table_lts t) initial W p q
unfolding entry_from table_lts
entry-later t W p q r e u ea ex = rw (e, ea, ex, u.target, u.action)

-- the entries of a pair that leaves B for A, and of one that does not
module _ (L : Lts) (initial : Bool) (B A : Rel) (p q : ℕ) where
  pub cell-leaves : B p q && not (A p q) ≡ true → cell_entries L initial B A p q ≡ entry_from L initial B p q ∷ []
  unfolding cell_entries
  cell-leaves e = rw e

  pub cell_stays : B p q && not (A p q) ≡ false → cell_entries L initial B A p q ≡ []
  unfolding cell_entries
  cell_stays e = rw e

  pub cell-next : (at : ℕ) → B p q && not (A p q) ≡ true → at + 1 ≡ at + length (cell_entries L initial B A p q)
  cell-next at e = ap (λ (l : List Entry). at + length l) (sym (cell-leaves e))

  pub cell-none : (at : ℕ) → B p q && not (A p q) ≡ false → at ≡ at + length (cell_entries L initial B A p q)
  cell-none at e = let zero : at ≡ at + 0 = omega arith in zero ∙ ap (λ (l : List Entry). at + length l) (sym (cell_stays e))

  pub cell-empty : (d : List ℕ) (i : ℕ) → B p q && not (A p q) ≡ false → d ≡ sets d i (entry_numbers (cell_entries L initial B A p q))
  unfolding entry_numbers
  cell-empty d i e = ap (λ (l : List Entry). sets d i (entry_numbers l)) (sym (cell_stays e))

  -- a pair that leaves has no answer
  pub leaves-unanswered : (initial ≡ false → A ≡ next_round L B) → B p q && not (A p q) ≡ true → initial ≡ false → answered L B p q ≡ false
  unfolding next_round
  leaves-unanswered f e i = go (B p q) (answered L B p q) (ap (λ (X : Rel). B p q && not (X p q)) (sym (f i)) ∙ e)
    where
      go : (x y : Bool) → x && not (x && y) ≡ true → y ≡ false
      go true true e = absurd (clash e refl)
      go true false e = refl
      go false y e = absurd (clash e refl)

-- the test of a pair, as the matrices say it, with the number of states as it was read
pub leaves-is : (t g h : List ℕ) (p q : ℕ) {states : ℕ} {x y : Bool} → p < states_of t → q < states_of t → states ≡ states_of t
    → x ≡ relation_of states g p q → y ≡ relation_of states h p q → x && not y ≡ pairs_of t g p q && not (pairs_of t h p q)
leaves-is t g h p q hp hq es e f =
    let n = states_of t in
    ap₂ (λ (x y : Bool). x && not y) (e ∙ ap (λ (k : ℕ). relation_of k g p q) es ∙ sym (restrict-at n (relation_of n g) p q hp hq))
    (f ∙ ap (λ (k : ℕ). relation_of k h p q) es ∙ sym (restrict-at n (relation_of n h) p q hp hq))

-- rows and rounds on a table
module _ (t : List ℕ) (initial : Bool) (B A : Rel) where
  pub row_is : (p : ℕ) → concat_below (states_of t) (cell_entries (table_lts t) initial B A p) ≡ row_entries (table_lts t) initial B A p
  unfolding row_entries table_lts
  row_is p = refl

  pub round_is : concat_below (states_of t) (row_entries (table_lts t) initial B A) ≡ round_entries (table_lts t) initial B A
  unfolding round_entries table_lts
  round_is = refl

-- a row that is as it was has no entries
module _ (t : List ℕ) (initial : Bool) (g h : List ℕ) (p : ℕ) (okg : Matrix (states_of t) g) (okh : Matrix (states_of t) h) (hp : p < states_of t) where
  abbrev n : ℕ
  n = states_of t

  abbrev B : Rel
  B = pairs_of t g

  abbrev A : Rel
  A = pairs_of t h

  cells-none : (c : ℕ) → ((q : ℕ) → q < c → B p q && not (A p q) ≡ false) → concat_below c (cell_entries (table_lts t) initial B A p) ≡ []
  unfolding concat_below
  cells-none zero e = refl
  cells-none (suc c) e =
      ap₂ (λ (x y : List Entry). x ++ y) (cells-none c (λ q l. e q (le_step l))) (cell_stays (table_lts t) initial B A p c (e c (lt-suc_self c)))

  pub row_same : {states words : ℕ} {x y : List ℕ} → states ≡ n → words ≡ row_words states → x ≡ drop (p * row_words states) g → y ≡ drop (p * row_words states) h
      → any_below (words * 64) (λ q. xor (in_row x q) (in_row y q)) ≡ false → row_entries (table_lts t) initial B A p ≡ []
  unfolding xor
  row_same {states} {words} {x} {y} es ew e f same = sym (row_is t initial B A p) ∙ cells-none n (λ q l. stays q l)
    where
      at : (l : List ℕ) → drop (p * row_words states) l ≡ drop (p * row_words n) l
      at l = ap (λ (k : ℕ). drop (p * row_words k) l) es

      equal : any_below n (λ q. xor (relation_of n g p q) (relation_of n h p q)) ≡ false
      equal =
          sym (rows-differ n g h p p okg okh hp hp)
          ∙ sym (ap₂ (λ (x y : List ℕ). any_below (row_words n * 64) (λ q. xor (in_row x q) (in_row y q))) (e ∙ at g) (f ∙ at h))
          ∙ sym (ap (λ (k : ℕ). any_below (k * 64) (λ q. xor (in_row x q) (in_row y q))) (ew ∙ ap row_words es)) ∙ same

      apart : (a b : Bool) → (xor a b ≡ true) ⊎ (a && not b ≡ false)
      apart true true = inr refl
      apart true false = inl refl
      apart false b = inr refl

      stays : (q : ℕ) → q < n → B p q && not (A p q) ≡ false
      stays q l = sym (leaves-is t g h p q hp l refl refl refl) ∙ go (apart (relation_of n g p q) (relation_of n h p q))
        where
          go : (xor (relation_of n g p q) (relation_of n h p q) ≡ true) ⊎ (relation_of n g p q && not (relation_of n h p q) ≡ false)
              → relation_of n g p q && not (relation_of n h p q) ≡ false
          go (inr z) = z
          go (inl z) = absurd (clash (sym (any-yes n (λ q. xor (relation_of n g p q) (relation_of n h p q)) q l z)) equal)

pub row-skips : (d : List ℕ) (first : ℕ) {es : List Entry} → es ≡ [] → (first ≡ first + length es) × (d ≡ sets d (4 * first) (entry_numbers es))
unfolding entry_numbers
row-skips d first e =
    let zero : first ≡ first + 0 = omega arith in
    (zero ∙ ap (λ (l : List Entry). first + length l) (sym e), ap (λ (l : List Entry). sets d (4 * first) (entry_numbers l)) (sym e))
