-- A list whose first elements are copied from another. Assumes nothing.
use Prim.Native.Nat.{ℕ, zero, suc, ◌+◌, ◌<◌}
use mathlib.Core.Path.{◌≡◌, refl, sym, ◌∙◌, ap}
use mathlib.Core.List.{List, [], ◌∷◌, ◌++◌}
use native.Mathlib.Nat.{not-suc-le-zero, le_of_suc-le-suc}
use native.Mathlib.Numerals.{add-one}
use lib.ListN.{length, get_or, take, drop, set}

module _ {A : Type 0} where
  abbrev pub filled : ℕ → List A → List A → List A
  filled i es ys = take i es ++ drop i ys

  fill_suc : (i : ℕ) (es ys : List A) (d : A) → i < length es → i < length ys → set (filled i es ys) i (get_or es i d) ≡ filled (suc i) es ys
  fill_suc i [] ys d he hy = absurd (not-suc-le-zero he)
  fill_suc i (e ∷ es) [] d he hy = absurd (not-suc-le-zero hy)
  fill_suc zero (e ∷ es) (y ∷ ys) d he hy = refl
  fill_suc (suc i) (e ∷ es) (y ∷ ys) d he hy = ap (λ (l : List A). e ∷ l) (fill_suc i es ys d (le_of_suc-le-suc he) (le_of_suc-le-suc hy))

  pub fill_step : (i : ℕ) (es ys : List A) (d : A) → i < length es → i < length ys → set (filled i es ys) i (get_or es i d) ≡ filled (i + 1) es ys
  fill_step i es ys d he hy = fill_suc i es ys d he hy ∙ ap (λ (k : ℕ). filled k es ys) (sym (add-one i))
