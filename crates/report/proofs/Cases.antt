-- Small cases, computed.
use mathlib.Core.Path.{◌≡◌, refl}
use mathlib.Core.List.{[], ◌∷◌}
use Rattle.report.specs.Decimal.{decimal_in, decimal, written}

zero-case : decimal 0 ≡ 48 ∷ []
unfolding decimal decimal_in
zero-case = refl

decimal-case : decimal 65536 ≡ 54 ∷ 53 ∷ 53 ∷ 51 ∷ 54 ∷ []
unfolding decimal decimal_in
decimal-case = refl

written-case : written 1 (decimal 40) (7 ∷ 7 ∷ 7 ∷ 7 ∷ []) ≡ 7 ∷ 52 ∷ 48 ∷ 7 ∷ []
unfolding decimal decimal_in written
written-case = refl
