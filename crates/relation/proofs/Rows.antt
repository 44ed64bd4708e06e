-- Laws of a matrix's rows: a row that is copied into a set or put together with one, and rows that are changed one after the other. Assumes nothing.
use mathlib.Core.Path.{◌≡◌, refl, sym, ap, ◌∙◌}
use mathlib.Core.Bool.{Bool, true, false, cond, and-true}
use mathlib.Core.List.{List, ◌++◌}
use mathlib.Core.Logic.{⊎_elim}
use Prim.Native.Nat.{ℕ, ◌+◌, ◌*◌, ◌≤◌, ◌<◌}
use native.Mathlib.Omega.{arith}
use lib.ListN.{length, get_or, drop}
use lib.Dec.{ltb}
use borrow.Author.Tests.{le-ltb, lt-ltb}
use Rattle.lts.specs.Bounded.{◌⇒◌}
use Rattle.lts.specs.System.{Set, Rel}
use Rattle.rows.specs.Rows.{in_row, row_of, row_words, states_below, Next}
use Rattle.relation.specs.Matrix.{relation_of, matrix_of, Matrix, set_row, rows_of}
use Rattle.lts.proofs.Below.{lt-or-ge}
use Rattle.rows.proofs.Rows.{set_words, row_of-cong, in_row-of, in_row-written, states-in, states-out}
use Rattle.relation.proofs.Matrices.{in_row-drop, row-long, matrix_of-cong, relation-of, set_here, set_other, done_more, done_none}

-- row p of a matrix, copied into words that are 0
pub copied-row : (n p : ℕ) (g row d : List ℕ) {w : ℕ} → w ≡ row_words n → n ≤ 256 → Matrix n g → p < n → length d ≡ 4 → ((j : ℕ) → get_or d j 0 ≡ 0)
    → row ≡ drop (p * row_words n) g → row_of w (in_row row) ++ drop w d ≡ row_of 4 (states_below n (relation_of n g p))
copied-row n p g row d {w} e small ok hp long zero at =
    set_words 4 w (in_row row) (states_below n (relation_of n g p)) d (omega arith) long zero
    (λ q h. ap (λ (l : List ℕ). in_row l q) at ∙ in_row-drop (row_words n) g p q
    ∙ ⊎_elim (λ (l : q < n). sym (states-in n (relation_of n g p) q l))
    (λ (l : n ≤ q). ok.clear p q hp l (omega (arith, h, e)) ∙ sym (states-out n (relation_of n g p) q l)) (lt-or-ge q n))
    (λ q h. states-out n (relation_of n g p) q (omega arith))

-- ---- a row of a matrix, as a part that starts at its first word, and a set that it is put together with

pub row_words_lem : (n : ℕ) {p w : ℕ} (g : List ℕ) {row : List ℕ} → w ≡ row_words n → row ≡ drop (p * row_words n) g → p < n → Matrix n g → w ≤ length row
row_words_lem n {p} g width e hp ok = omega (arith, width, ap length e, row-long n {p = p} g hp ok.long)

pub zipped-row : (n p : ℕ) (g : List ℕ) (β : Bool → Bool → Bool) (d : List ℕ) {row d' : List ℕ} {w : ℕ} → w ≡ row_words n → row ≡ drop (p * row_words n) g
    → d' ≡ row_of w (λ q. β (in_row d q) (in_row row q)) ++ drop w d → (q : ℕ) → q < n → in_row d' q ≡ β (in_row d q) (relation_of n g p q)
zipped-row n p g β d {row} {w = w} width at e q h =
    ap (λ (l : List ℕ). in_row l q) e ∙ in_row-written w (λ q. β (in_row d q) (in_row row q)) (drop w d) q (omega (arith, h, width))
    ∙ ap (β (in_row d q)) (ap (λ (l : List ℕ). in_row l q) at ∙ in_row-drop (row_words n) g p q)

-- ---- a matrix whose rows are changed one after the other

-- rows that N leaves as R has them may be passed over
module _ (n : ℕ) (N R : Rel) (g g' : ℕ) where
  pub rows-skip : g ≤ g' → ((t q : ℕ) → t < n → q < n → g ≤ t → t < g' → R t q ≡ N t q) → matrix_of n (rows_of g N R) ≡ matrix_of n (rows_of g' N R)
  rows-skip le same = matrix_of-cong n _ _ (λ t q ht hq.
      ⊎_elim
      (λ (h : t < g). ap (λ (b : Bool). cond b (N t q) (R t q)) (lt-ltb t g h ∙ sym (lt-ltb t g' (omega arith))))
      (λ (h : g ≤ t). ap (λ (b : Bool). cond b (N t q) (R t q)) (le-ltb t g h)
      ∙ ⊎_elim
      (λ (l : t < g'). same t q ht hq h l ∙ sym (ap (λ (b : Bool). cond b (N t q) (R t q)) (lt-ltb t g' l)))
      (λ (l : g' ≤ t). sym (ap (λ (b : Bool). cond b (N t q) (R t q)) (le-ltb t g' l)))
      (lt-or-ge t g'))
      (lt-or-ge t g))

  pub rows_end : n ≤ g → matrix_of n (rows_of g N R) ≡ matrix_of n N
  rows_end h = matrix_of-cong n _ _ (λ t q ht hq. ap (λ (b : Bool). cond b (N t q) (R t q)) (lt-ltb t g (omega arith)))

-- from one row of `rows` to the next, where N has the other rows as R has them
module _ (n : ℕ) (N R : Rel) (rows : Set) (same : (t q : ℕ) → t < n → q < n → rows t ≡ false → R t q ≡ N t q) where
  pub rows_next : (bound g g' : ℕ) → Next rows bound g g' → matrix_of n (rows_of g N R) ≡ matrix_of n (rows_of g' N R)
  rows_next bound g g' next = rows-skip n N R g g' next.above (λ t q ht hq l h. same t q ht hq (next.none t l h))

  pub rows-first : (bound g : ℕ) → Next rows bound 0 g → matrix_of n R ≡ matrix_of n (rows_of g N R)
  rows-first bound g next = done_none n N R ∙ rows_next bound 0 g next

-- a matrix l that has the new rows N below g, and the rows of R from g on: what follows where row g becomes N's too
module _ (n : ℕ) (N R : Rel) (g : ℕ) (l : List ℕ) (hg : g < n) (now : l ≡ matrix_of n (rows_of g N R)) where
  row-unchanged : (q : ℕ) → q < n → relation_of n l g q ≡ R g q
  row-unchanged q hq = relation-of n (rows_of g N R) now g q hg hq ∙ ap (λ (b : Bool). cond b (N g q) (R g q)) (le-ltb g g (omega arith))

  pub row-set : (S : Set) → ((q : ℕ) → q < n → S q ≡ N g q) → matrix_of n (set_row g S (relation_of n l)) ≡ matrix_of n (rows_of (g + 1) N R)
  row-set S same = done_more n N R g (set_row g S (relation_of n l))
      (λ t q ht hq ne. set_other g S (relation_of n l) t q ne ∙ relation-of n (rows_of g N R) now t q ht hq)
      (λ q hq. set_here g S (relation_of n l) q ∙ same q hq)

-- ---- rows of all states, and the rows of the members

-- the set of all states, copied into a row
pub all_row : (n : ℕ) (all : List ℕ) {w : ℕ} → w ≡ row_words n → n ≤ 256 → all ≡ row_of 4 (λ q. ltb q n) → row_of w (in_row all) ≡ row_of w (states_below n (λ q. true))
all_row n all {w} width small is =
    row_of-cong w _ _ (λ q h. ap (λ (l : List ℕ). in_row l q) is ∙ in_row-of 4 (λ q. ltb q n) q (omega (arith, h, width, small)) ∙ sym (and-true (ltb q n)))

-- where every pair is related, and then the members' rows become the members: a member is related to the members alone
pub members-implied : (n : ℕ) (S : Set) (g : List ℕ) → g ≡ matrix_of n (λ p q. true) → matrix_of n (λ p q. cond (S p) (S q) (relation_of n g p q)) ≡ matrix_of n (λ p q. S p ⇒ S q)
members-implied n S g is = matrix_of-cong n _ _ (λ p q hp hq. ap (cond (S p) (S q)) (relation-of n (λ p q. true) is p q hp hq) ∙ implied (S p) (S q))
  where
    implied : (a b : Bool) → cond a b true ≡ (a ⇒ b)
    implied true b = refl
    implied false b = refl
