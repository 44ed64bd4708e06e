-- Laws of the numbers of one type, as `Number` (src/lib.rt) asks for them.
use Rattle.std.specs.Prelude.{ℕ, ◌≡◌, ◌≤◌, List, [], ◌∷◌, map, refl}
use Rattle.std.proofs.Common.{ap, arith}

pub values_same : (xs : List ℕ) → xs ≡ map (λ x. x) xs
values_same [] = refl
values_same (x ∷ xs) = ap (λ ys. x ∷ ys) (values_same xs)

pub eight_fits : (1 ≤ 8) × (8 ≤ 8)
eight_fits = (omega arith, omega arith)

pub two_fits : (1 ≤ 2) × (2 ≤ 8)
two_fits = (omega arith, omega arith)
