-- Lists in which each value has one place, by a test `same` of two values: document 02, L2 (names).
use Rattle.std.specs.Prelude.{ℕ, zero, suc, Bool, true, false, cond, not, ◌&&◌, ◌||◌, List, [], ◌∷◌, ◌++◌}

module _ {A : Type 0} (same : A → A → Bool) where
  -- x is in the list
  unfoldable pub among : List A → A → Bool
  among [] x = false
  among (y ∷ ys) x = same y x || among ys x

  -- no value stands in the list twice
  unfoldable pub distinct : List A → Bool
  distinct [] = true
  distinct (x ∷ xs) = not (among xs x) && distinct xs

  -- the first place of x, from 0; the length where it has none
  unfoldable pub place_in : List A → A → ℕ
  place_in [] x = zero
  place_in (y ∷ ys) x = cond (same y x) zero (suc (place_in ys x))

  -- xs, then those of ys that are not there yet, in their order
  unfoldable pub continued : List A → List A → List A
  continued xs [] = xs
  continued xs (y ∷ ys) = continued (cond (among xs y) xs (xs ++ (y ∷ []))) ys
