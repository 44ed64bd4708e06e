-- The matrix of a relation that is reflexive and transitive on the states is a start; that of the terminating states is the end start.
use mathlib.Core.Path.{◌≡◌, refl, sym, ap, ap₂, ◌∙◌}
use mathlib.Core.Logic.{⊎_elim}
use mathlib.Core.Bool.{Bool, true}
use mathlib.Core.List.{List}
use Prim.Native.Nat.{ℕ, ◌*◌, ◌≤◌, ◌<◌}
use native.Mathlib.Omega.{arith}
use lib.Dec.{T}
use borrow.Author.Tests.{lt-ltb, le-ltb}
use Rattle.lts.specs.System.{Rel, Lts, reflexive, transitive, all_states, termination_preorder}
use Rattle.lts.specs.Bounded.{◌⇒◌}
use Rattle.lts.specs.Rule.{Nothing, broken}
use Rattle.lts.proofs.Rule.{pass, done}
use Rattle.rows.specs.Rows.{in_row, row_of, row_words}
use Rattle.rows.proofs.Rows.{in_row-of}
use Rattle.relation.specs.Matrix.{relation_of, matrix_of, Matrix}
use Rattle.relation.specs.Check.{reflexive_below, transitive_below, transitive_at, transitive_pair, clear_at, is_matrix, start_rules}
use Rattle.lts.proofs.Below.{all_of, all-cong, lt-or-ge, T_true}
use Rattle.relation.proofs.Checks.{right-length}
use Rattle.relation.proofs.Matrices.{relation-matrix, matrix-formed, matrix_of-cong}

-- a matrix passes the test
pub matrix-passes : (n : ℕ) (g : List ℕ) → Matrix n g → is_matrix n g ≡ true
matrix-passes n g ok =
    sym (right-length n g ok.long) ∙ all_of n (clear_at n g) (λ p hp. all_of (row_words n * 64) _ (λ q u.
    ⊎_elim (λ (l : q < n). rw (lt-ltb q n l)) (λ (l : n ≤ q). rw (le-ltb q n l, ok.clear p q hp l u)) (lt-or-ge q n)))

-- the matrix of a relation that is reflexive and transitive on the states keeps the rules of a start
module _ (L : Lts) (R : Rel) (loop : T (reflexive L R)) (chain : T (transitive L R)) where
  abbrev n : ℕ
  n = L.states

  abbrev S : Rel
  S = relation_of n (matrix_of n R)

  same : (p q : ℕ) → p < n → q < n → S p q ≡ R p q
  same = relation-matrix n R

  loops : reflexive_below n S ≡ true
  unfolding reflexive_below reflexive all_states
  loops = all-cong n _ _ (λ p h. same p p h h) ∙ T_true _ loop

  chains : transitive_below n S ≡ true
  unfolding transitive_below transitive_at transitive_pair transitive all_states
  chains =
      all-cong n _ _ (λ p hp. all-cong n _ _ (λ q hq. all-cong n _ _ (λ r hr. rw (same p q hp hq, same q r hq hr, same p r hp hr))))
      ∙ T_true _ chain

  pub matrix-kept : broken (start_rules n (matrix_of n R)) ≡ Nothing
  unfolding start_rules
  matrix-kept =
      let a = pass _ _ _ refl (sym (matrix-passes n (matrix_of n R) (matrix-formed n R))) refl in
      done (pass _ _ _ (pass _ _ _ a (sym loops) refl) (sym chains) refl)

-- the relation of the terminating states, as a row, is the termination preorder
pub termination-written : (n : ℕ) (L : Lts) {ends : List ℕ} → n ≤ 256 → ends ≡ row_of 4 L.terminating
    → matrix_of n (λ p q. in_row ends p ⇒ in_row ends q) ≡ matrix_of n (termination_preorder L)
unfolding termination_preorder
termination-written n L {ends} few e = matrix_of-cong n _ _ (λ p q hp hq. ap₂ (λ (x y : Bool). x ⇒ y) (at p (omega arith)) (at q (omega arith)))
  where
    at : (q : ℕ) → q < 256 → in_row ends q ≡ L.terminating q
    at q h = ap (λ (l : List ℕ). in_row l q) e ∙ in_row-of 4 L.terminating q h
