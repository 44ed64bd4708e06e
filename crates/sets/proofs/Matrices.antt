-- A matrix as a list of sets, row by row. Assumes nothing.
use mathlib.Core.Path.{◌≡◌, sym, ap, ap₂, ◌∙◌}
use mathlib.Core.Bool.{Bool, false, cond, ◌&&◌, and_assoc}
use mathlib.Core.Logic.{⊎_elim}
use mathlib.Core.List.{List}
use Prim.Native.Nat.{ℕ, ◌+◌, ◌/◌, ◌%◌, ◌≤◌, ◌<◌}
use native.Mathlib.Nat.{eq-or-lt_of_le}
use native.Mathlib.Omega.{arith}
use lib.Dec.{eqb, ltb}
use lib.ListN.{length}
use borrow.Author.Tests.{lt-ltb, le-ltb, eq-eqb, ne_eqb}
use Rattle.lts.specs.Bounded.{restrict}
use Rattle.lts.specs.System.{Rel}
use Rattle.lts.proofs.Below.{lt-or-ge}
use Rattle.rows.specs.Rows.{in_row, row_of, states_below}
use Rattle.relation.specs.Matrix.{matrix_of, rows_of}
use Rattle.relation.proofs.Matrices.{matrix_of-cong}
use Rattle.sets.specs.Sets.{set_at, sets_of}
use Rattle.sets.proofs.Lists.{set-in, sets-in, sets-cong, sets-long, put-sets}

-- the first p rows of R
abbrev pub first_rows : ℕ → Rel → Rel
first_rows p R t q = ltb t p && R t q

pub rows_none : (R : Rel) → sets_of 256 (λ p q. false) ≡ sets_of 256 (first_rows 0 R)
rows_none R = sets-cong 256 _ _ (λ t q _ _. sym (ap (λ (b : Bool). b && R t q) (le-ltb t 0 (omega arith))))

-- one row more
pub rows-put : (R : Rel) (p : ℕ) (list row : List ℕ) {list' : List ℕ} → list ≡ sets_of 256 (first_rows p R) → row ≡ row_of 4 (R p)
    → list' ≡ row_of (length list) (λ x. cond (eqb (x / 256) p) (in_row row (x % 256)) (in_row list x)) → list' ≡ sets_of 256 (first_rows (p + 1) R)
rows-put R p list row now is put =
    put-sets 256 p (in_row row) list (sets-long 256 _ now) put
    ∙ sets-cong 256 _ _ (λ t q h l. ⊎_elim
    (λ (u : t < p). ap₂ (λ (b x : Bool). cond b (in_row row q) x) (ne_eqb t p (λ e. omega (arith, e, u))) (sets-in 256 _ now t q h l)
    ∙ ap (λ (b : Bool). b && R t q) (lt-ltb t p u ∙ sym (lt-ltb t (p + 1) (omega (arith, u)))))
    (λ (u : p ≤ t). ⊎_elim
    (λ (e : p ≡ t). ap (λ (b : Bool). cond b (in_row row q) (set_at list t q)) (eq-eqb t p (sym e)) ∙ set-in _ is q l ∙ ap (λ (x : ℕ). R x q) e ∙ sym (ap (λ (b : Bool). b && R t q) (lt-ltb t (p + 1) (omega (arith, e)))))
    (λ (v : p < t). ap₂ (λ (b x : Bool). cond b (in_row row q) x) (ne_eqb t p (λ e. omega (arith, e, v))) (sets-in 256 _ now t q h l)
    ∙ ap (λ (b : Bool). b && R t q) (le-ltb t p u ∙ sym (le-ltb t (p + 1) (omega (arith, v)))))
    (eq-or-lt_of_le u)) (lt-or-ge t p))

pub rows_whole : (n p : ℕ) (R : Rel) → p ≡ n → sets_of 256 (first_rows p (λ t. states_below n (R t))) ≡ sets_of 256 (restrict n R)
unfolding restrict
rows_whole n p R e = ap (λ (k : ℕ). sets_of 256 (first_rows k (λ t. states_below n (R t)))) e ∙ sets-cong 256 _ _ (λ t q _ _. sym (and_assoc (ltb t n) (ltb q n) (R t q)))

-- no row of a matrix written yet
pub rows-begin : (n : ℕ) (N R : Rel) → matrix_of n R ≡ matrix_of n (rows_of 0 N R)
rows-begin n N R = matrix_of-cong n _ _ (λ t q _ _. sym (ap (λ (b : Bool). cond b (N t q) (R t q)) (le-ltb t 0 (omega arith))))
