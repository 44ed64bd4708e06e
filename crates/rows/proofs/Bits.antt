-- Laws of the bits of a number: what `&`, `|`, `!` do at each bit, and that a number of k bits is what its bits say. Assumes nothing.
use mathlib.Core.Path.{◌≡◌, refl, sym, ap, ◌∙◌}
use mathlib.Core.Bool.{Bool, true, false, not, ◌&&◌, ◌||◌, xor}
use mathlib.Core.Logic.{◌⊎◌, inl, inr}
use Prim.Native.Nat.{ℕ, zero, suc, ◌+◌, ◌-◌, ◌*◌, ◌/◌, ◌%◌, ◌^◌, ◌≤◌, ◌<◌, suc-le-suc, min, max}
use native.Mathlib.Nat.{not-suc-le-zero, le_of_suc-le-suc, zero-lt-suc, pow-suc, div-one, mod-lt, div-div-eq-div-mul, div-eq_of_lt, mul_comm, mod-eq_of_lt, lt_of_lt_of_le, zero-div, one-mul}
use native.Mathlib.Omega.{arith}
use lib.Dec.{eqb, eqb-suc-zero, eqb-zero-suc, eqb-suc-suc}
use lib.Pow.{pow_mono, pow_pos, pow-lt, pow-add}
use lib.Bits.{bit_and, bit_or, bit_xor, differ, and_shr, or_shr, xor_shr, and_step, or_step, xor_step}
use Rattle.rows.specs.Rows.{bit, digit, word_of}

-- a bit is 0 or 1
pub digit-cases : (x : ℕ) → (x % 2 ≡ 0) ⊎ (x % 2 ≡ 1)
digit-cases x = pick (x % 2) (mod-lt x (zero-lt-suc 1))
  where
    pick : (d : ℕ) → d < 2 → (d ≡ 0) ⊎ (d ≡ 1)
    pick zero h = inl refl
    pick (suc zero) h = inr refl
    pick (suc (suc d)) h = absurd (not-suc-le-zero (le_of_suc-le-suc (le_of_suc-le-suc h)))

digit_lt : (b : Bool) → digit b < 2
digit_lt true = omega arith
digit_lt false = omega arith

eqb-digit : (b : Bool) → eqb (digit b) 1 ≡ b
eqb-digit true = refl
eqb-digit false = refl

-- ---- the lowest bit, and the bits above it

pub bit-zero : (x : ℕ) → bit x 0 ≡ eqb (x % 2) 1
unfolding bit
bit-zero x = ap (λ (y : ℕ). eqb (y % 2) 1) (div-one x)

pub bit-suc : (x i : ℕ) → bit x (suc i) ≡ bit (x / 2) i
unfolding bit
bit-suc x i = ap (λ (y : ℕ). eqb (y % 2) 1) (ap (λ (y : ℕ). x / y) (pow-suc 2 i ∙ mul_comm (2 ^ i) 2) ∙ sym (div-div-eq-div-mul x 2 (2 ^ i)))

-- the bits of a number without its s lowest, and past its highest
pub bit-shr : (x s i : ℕ) → bit (x / 2 ^ s) i ≡ bit x (s + i)
unfolding bit
bit-shr x s i = ap (λ (y : ℕ). eqb (y % 2) 1) (div-div-eq-div-mul x (2 ^ s) (2 ^ i) ∙ ap (λ (y : ℕ). x / y) (sym (pow-add 2 s i)))

pub bit_high : (k x i : ℕ) → x < 2 ^ k → k ≤ i → bit x i ≡ false
unfolding bit
bit_high k x i h l = ap (λ (y : ℕ). eqb (y % 2) 1) (div-eq_of_lt (lt_of_lt_of_le h (pow_mono l)))

pub digit-bit : (x : ℕ) → digit (bit x 0) ≡ x % 2
digit-bit x = ap digit (bit-zero x) ∙ at (x % 2) (digit-cases x)
  where
    at : (d : ℕ) → (d ≡ 0) ⊎ (d ≡ 1) → digit (eqb d 1) ≡ d
    at d (inl e) = ap (λ (y : ℕ). digit (eqb y 1)) e ∙ sym e
    at d (inr e) = ap (λ (y : ℕ). digit (eqb y 1)) e ∙ sym e

-- ---- the number of given bits

pub word_of-lt : (k : ℕ) (f : ℕ → Bool) → word_of k f < 2 ^ k
unfolding word_of
word_of-lt zero f = zero-lt-suc 0
word_of-lt (suc k) f = rw (pow-suc) (omega (arith, word_of-lt k (λ i. f (suc i)), digit_lt (f 0)))

pub bit-word_of : (k : ℕ) (f : ℕ → Bool) (i : ℕ) → i < k → bit (word_of k f) i ≡ f i
unfolding word_of
bit-word_of zero f i h = absurd (not-suc-le-zero h)
bit-word_of (suc k) f zero h =
    let low : (word_of k (λ i. f (suc i)) * 2 + digit (f 0)) % 2 ≡ digit (f 0) = omega (arith, digit_lt (f 0)) in
    bit-zero (word_of k (λ i. f (suc i)) * 2 + digit (f 0)) ∙ ap (λ (y : ℕ). eqb y 1) low ∙ eqb-digit (f 0)
bit-word_of (suc k) f (suc i) h =
    let up : (word_of k (λ i. f (suc i)) * 2 + digit (f 0)) / 2 ≡ word_of k (λ i. f (suc i)) = omega (arith, digit_lt (f 0)) in
    bit-suc (word_of k (λ i. f (suc i)) * 2 + digit (f 0)) i ∙ ap (λ (y : ℕ). bit y i) up ∙ bit-word_of k (λ i. f (suc i)) i (le_of_suc-le-suc h)

-- a number of k bits whose bits are f's is the number of f
pub word-ext : (k : ℕ) {x : ℕ} (f : ℕ → Bool) → x < 2 ^ k → ((i : ℕ) → i < k → bit x i ≡ f i) → x ≡ word_of k f
unfolding word_of
word-ext zero f h e = omega (arith, h)
word-ext (suc k) {x} f h e =
    let half : x / 2 < 2 ^ k = omega (arith, rw (pow-suc 2 k) at h) in
    let rest : x / 2 ≡ word_of k (λ i. f (suc i)) = word-ext k (λ i. f (suc i)) half (λ i l. sym (bit-suc x i) ∙ e (suc i) (suc-le-suc l)) in
    let low : x % 2 ≡ digit (f 0) = sym (digit-bit x) ∙ ap digit (e 0 (zero-lt-suc k)) in
    omega (arith, rest, low)

pub bit-of-zero : (i : ℕ) → bit 0 i ≡ false
unfolding bit
bit-of-zero i = rw (zero-div)

pub word-zero : (k : ℕ) → word_of k (λ i. false) ≡ 0
word-zero k = sym (word-ext k {x = 0} (λ i. false) (pow_pos k) (λ i l. bit-of-zero i))

-- ---- the operations, bit by bit

pub bit-and : (a b i : ℕ) → bit (bit_and a b) i ≡ bit a i && bit b i
unfolding bit
bit-and a b i =
    ap (λ (y : ℕ). eqb (y % 2) 1) (and_shr a b i) ∙ low (a / 2 ^ i) (b / 2 ^ i) (digit-cases (a / 2 ^ i)) (digit-cases (b / 2 ^ i))
  where
    step : (x y : ℕ) → bit_and x y % 2 ≡ min (x % 2) (y % 2) % 2
    step x y = rw (and_step x y) (omega arith)

    low : (x y : ℕ) → (x % 2 ≡ 0) ⊎ (x % 2 ≡ 1) → (y % 2 ≡ 0) ⊎ (y % 2 ≡ 1) → eqb (bit_and x y % 2) 1 ≡ eqb (x % 2) 1 && eqb (y % 2) 1
    low x y (inl e) (inl f) = rw (step x y, e, f)
    low x y (inl e) (inr f) = rw (step x y, e, f)
    low x y (inr e) (inl f) = rw (step x y, e, f)
    low x y (inr e) (inr f) = rw (step x y, e, f)

pub bit-or : (a b i : ℕ) → bit (bit_or a b) i ≡ bit a i || bit b i
unfolding bit
bit-or a b i =
    ap (λ (y : ℕ). eqb (y % 2) 1) (or_shr a b i) ∙ low (a / 2 ^ i) (b / 2 ^ i) (digit-cases (a / 2 ^ i)) (digit-cases (b / 2 ^ i))
  where
    step : (x y : ℕ) → bit_or x y % 2 ≡ max (x % 2) (y % 2) % 2
    step x y = rw (or_step x y) (omega arith)

    low : (x y : ℕ) → (x % 2 ≡ 0) ⊎ (x % 2 ≡ 1) → (y % 2 ≡ 0) ⊎ (y % 2 ≡ 1) → eqb (bit_or x y % 2) 1 ≡ eqb (x % 2) 1 || eqb (y % 2) 1
    low x y (inl e) (inl f) = rw (step x y, e, f)
    low x y (inl e) (inr f) = rw (step x y, e, f)
    low x y (inr e) (inl f) = rw (step x y, e, f)
    low x y (inr e) (inr f) = rw (step x y, e, f)

pub bit-xor : (a b i : ℕ) → bit (bit_xor a b) i ≡ xor (bit a i) (bit b i)
unfolding bit xor
bit-xor a b i =
    ap (λ (y : ℕ). eqb (y % 2) 1) (xor_shr a b i) ∙ low (a / 2 ^ i) (b / 2 ^ i) (digit-cases (a / 2 ^ i)) (digit-cases (b / 2 ^ i))
  where
    step : (x y : ℕ) → bit_xor x y % 2 ≡ differ (x % 2) (y % 2) % 2
    step x y = rw (xor_step x y) (omega arith)

    low : (x y : ℕ) → (x % 2 ≡ 0) ⊎ (x % 2 ≡ 1) → (y % 2 ≡ 0) ⊎ (y % 2 ≡ 1) → eqb (bit_xor x y % 2) 1 ≡ xor (eqb (x % 2) 1) (eqb (y % 2) 1)
    low x y (inl e) (inl f) = rw (step x y, e, f)
    low x y (inl e) (inr f) = rw (step x y, e, f)
    low x y (inr e) (inl f) = rw (step x y, e, f)
    low x y (inr e) (inr f) = rw (step x y, e, f)

-- the complement of a number of k bits
pub bit_not : (k x i : ℕ) → i < k → x < 2 ^ k → bit ((2 ^ k - 1) - x) i ≡ not (bit x i)
bit_not zero x i h l = absurd (not-suc-le-zero h)
bit_not (suc k) x zero h l =
    let low : ((2 ^ suc k - 1) - x) % 2 ≡ 1 - x % 2 = rw (pow-suc 2 k) (omega (arith, rw (pow-suc 2 k) at l)) in
    bit-zero ((2 ^ suc k - 1) - x) ∙ ap (λ (y : ℕ). eqb y 1) low ∙ at (x % 2) (digit-cases x) ∙ ap not (sym (bit-zero x))
  where
    at : (d : ℕ) → (d ≡ 0) ⊎ (d ≡ 1) → eqb (1 - d) 1 ≡ not (eqb d 1)
    at d (inl e) = rw e
    at d (inr e) = rw e
bit_not (suc k) x (suc i) h l =
    let half : x / 2 < 2 ^ k = omega (arith, rw (pow-suc 2 k) at l) in
    let up : ((2 ^ suc k - 1) - x) / 2 ≡ (2 ^ k - 1) - x / 2 = rw (pow-suc 2 k) (omega (arith, rw (pow-suc 2 k) at l)) in
    bit-suc ((2 ^ suc k - 1) - x) i ∙ ap (λ (y : ℕ). bit y i) up ∙ bit_not k (x / 2) i (le_of_suc-le-suc h) half ∙ ap not (sym (bit-suc x i))

-- ---- a single bit

pub bit-pow : (k i : ℕ) → bit (2 ^ k) i ≡ eqb i k
bit-pow zero zero = bit-zero 1
bit-pow zero (suc i) = bit-suc 1 i ∙ bit-of-zero i ∙ sym (eqb-suc-zero i)
bit-pow (suc k) zero =
    let low : 2 ^ suc k % 2 ≡ 0 = rw (pow-suc 2 k) (omega arith) in
    bit-zero (2 ^ suc k) ∙ ap (λ (x : ℕ). eqb x 1) low ∙ sym (eqb-zero-suc k)
bit-pow (suc k) (suc i) =
    let up : 2 ^ suc k / 2 ≡ 2 ^ k = rw (pow-suc 2 k) (omega arith) in
    bit-suc (2 ^ suc k) i ∙ ap (λ (x : ℕ). bit x i) up ∙ bit-pow k i ∙ sym (eqb-suc-suc i k)

-- `1 << k`, as the machine has it
pub one_shl : (k : ℕ) → k < 64 → 1 * 2 ^ k % 2 ^ 64 ≡ 2 ^ k
one_shl k h = ap (λ (x : ℕ). x % 2 ^ 64) (one-mul (2 ^ k)) ∙ mod-eq_of_lt (pow-lt h)
