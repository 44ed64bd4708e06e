-- Decimal numbers and text in a buffer (document 01: what the program flowcheck prints).
use Rattle.std.specs.Prelude.{ℕ, zero, suc, ◌+◌, ◌/◌, ◌%◌, cond, List, [], ◌∷◌, ◌++◌, ltb, length, take, drop}

-- the last k decimal digits of x in ASCII, highest first; all of them, where x has no more than k
unfoldable pub decimal_in : ℕ → ℕ → List ℕ
decimal_in zero x = []
decimal_in (suc k) x = cond (ltb x 10) [] (decimal_in k (x / 10)) ++ ((48 + x % 10) ∷ [])

-- the decimal digits of x, which has at most x + 1 of them: no leading zero, and 0 for zero
unfoldable pub decimal : ℕ → List ℕ
decimal x = decimal_in (suc x) x

-- a buffer after text was written into it from `at` on
unfoldable pub written : ℕ → List ℕ → List ℕ → List ℕ
written at text buffer = take at buffer ++ text ++ drop (at + length text) buffer
