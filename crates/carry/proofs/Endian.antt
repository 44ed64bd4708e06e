-- The library's numbers of bytes, low byte first, are those of specs/Carried.antt.
use Prim.Native.Nat.{ℕ, zero, suc, ◌+◌, ◌*◌, ◌/◌, ◌%◌, ◌^◌}
use mathlib.Core.Path.{◌≡◌, refl, sym, ap, ap₂, ◌∙◌}
use mathlib.Core.List.{List, [], ◌∷◌}
use native.Mathlib.Nat.{div-one, div-div-eq-div-mul, pow-suc}
use native.Mathlib.Omega.{arith}
use lib.ListN.{length, get_or}
use Rattle.std.specs.Int.{byte_at, byte_worth, bytes_low_first, sum_through}
use Rattle.carry.specs.Carried.{number_of, digits}

byte : (i x : ℕ) → byte_at i x ≡ x / 256 ^ i % 256
byte zero x = ap (λ (y : ℕ). y % 256) (sym (div-one x))
byte (suc i) x = refl

-- the k bytes from byte i of x on
pub bytes-digits : (i k x : ℕ) → bytes_low_first i k x ≡ digits k (x / 256 ^ i)
unfolding digits
bytes-digits i zero x = refl
bytes-digits i (suc k) x =
    ap₂ (λ (b : ℕ) (bs : List ℕ). b ∷ bs) (byte i x)
    (bytes-digits (suc i) k x ∙ ap (λ (y : ℕ). digits k y) (ap (λ (y : ℕ). x / y) (pow-suc 256 i) ∙ sym (div-div-eq-div-mul x (256 ^ i) 256)))

-- the number of k + 1 bytes
sum-front : (f : ℕ → ℕ) (k : ℕ) → sum_through f (suc k) ≡ f 0 + sum_through (λ i. f (suc i)) k
sum-front f zero = refl
sum-front f (suc k) = omega (arith, sum-front f k)

scaled : (bs : List ℕ) (k : ℕ) → sum_through (λ i. byte_worth (suc i) (get_or bs i 0)) k ≡ 256 * sum_through (λ i. byte_worth i (get_or bs i 0)) k
scaled bs zero = omega arith
scaled bs (suc k) = rw (pow-suc 256 (suc k)) (omega (arith, scaled bs k))

pub bytes-number : (bs : List ℕ) (k : ℕ) → length bs ≡ suc k → sum_through (λ i. byte_worth i (get_or bs i 0)) k ≡ number_of bs
unfolding number_of
bytes-number [] k e = absurd (omega arith)
bytes-number (b ∷ []) zero e = omega arith
bytes-number (b ∷ c ∷ bs) zero e = absurd (omega arith)
bytes-number (b ∷ bs) (suc k) e = omega (arith, sum-front (λ i. byte_worth i (get_or (b ∷ bs) i 0)) k, scaled bs k, bytes-number bs k (omega arith))
