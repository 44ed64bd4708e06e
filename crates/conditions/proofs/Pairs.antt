-- A pair that meets the conditions, and the pairs of a row from member to member. Assumes nothing.
use Prim.Native.Nat.{ℕ, ◌*◌, ◌≤◌, ◌<◌}
use mathlib.Core.Path.{◌≡◌, sym, ap, ◌∙◌, subst}
use mathlib.Core.Logic.{◌↔◌, ⊎_elim}
use mathlib.Core.Bool.{Bool, true, false}
use mathlib.Core.List.{List}
use lib.Dec.{T}
use lib.ListN.{drop}
use Rattle.lts.specs.Bounded.{◌⇒◌, all_below}
use Rattle.lts.specs.System.{Set, Rel, Lts, WellFormed, answered}
use Rattle.lts.proofs.Bounded.{and-iff, test-ext}
use Rattle.lts.proofs.Below.{lt-or-ge, true-T, all-cong}
use Rattle.lts.proofs.System.{answered-iff}
use Rattle.rows.specs.Rows.{in_row, row_words, Next}
use Rattle.relation.specs.Matrix.{relation_of}
use Rattle.relation.proofs.Matrices.{in_row-drop}
use Rattle.conditions.specs.Conditions.{Starting, Transfer, both_conditions}

-- ---- one pair

-- two equal tests
pub same_test : {a b : Bool} → a ≡ b → T a ↔ T b
same_test e = (subst T e, subst T (sym e))

-- a test that decides another and passes
pub premise-met : (r b : Bool) → r ≡ true → T r ↔ T b → T b
premise-met r b e d = d.0 (true-T r e)

module _ (L : Lts) (start R : Rel) (p q : ℕ) where
  pub starting-fails : (s : Bool) → T s ↔ Starting start p q → s ≡ false → false ≡ both_conditions L start R p q
  unfolding both_conditions
  starting-fails s d e = test-ext _ _ (λ f. absurd f) (λ m. subst T e (d.1 ((and-iff (start p q) (answered L R p q)).0 m).0))

  pub transfer-decides : WellFormed L → Starting start p q → (r : Bool) → T r ↔ Transfer L R p q → r ≡ both_conditions L start R p q
  unfolding both_conditions
  transfer-decides wf s r d = test-ext _ _
      (λ t. (and-iff (start p q) (answered L R p q)).1 (s, (answered-iff wf R p q).1 (d.0 t)))
      (λ m. d.1 ((answered-iff wf R p q).0 ((and-iff (start p q) (answered L R p q)).0 m).1))

-- ---- the pairs of a row

-- up to the next member there is none
pub walked_skip : (S f : Set) {bound from r : ℕ} → Next S bound from r → ((x : ℕ) → x < from → (S x ⇒ f x) ≡ true) → (x : ℕ) → x < r → (S x ⇒ f x) ≡ true
walked_skip S f {bound} {from} next before x h = ⊎_elim (λ (l : x < from). before x l) (λ (l : from ≤ x). rw (next.none x l h)) (lt-or-ge x from)

-- the members of row p are the states that p is related to
pub walked_row : (m : ℕ) (g : List ℕ) (p : ℕ) (f : Set) {n : ℕ} {row : List ℕ} → n ≡ m → row ≡ drop (p * row_words n) g
    → all_below m (λ x. in_row row x ⇒ f x) ≡ all_below m (λ x. relation_of m g p x ⇒ f x)
walked_row m g p f {n} en at = all-cong m _ _ (λ x h. ap (λ (b : Bool). b ⇒ f x)
    (ap (λ (l : List ℕ). in_row l x) (at ∙ ap (λ (k : ℕ). drop (p * row_words k) g) en) ∙ in_row-drop (row_words m) g p x))
