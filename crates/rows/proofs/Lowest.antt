-- The ones of a word, the lowest first: `x & (x - 1)` drops the lowest one. Assumes nothing.
use mathlib.Core.Path.{◌≡◌, refl, sym, ap, ap₂, ◌∙◌, fun_ext}
use mathlib.Core.Bool.{Bool, true, false, cond, not, ◌&&◌, and-true, and-false, and_self}
use mathlib.Core.List.{[], ◌∷◌, ◌++◌}
use mathlib.Core.Logic.{⊎_elim}
use Prim.Native.Nat.{ℕ, zero, suc, ◌-◌, ◌/◌, ◌%◌, ◌^◌, ◌<◌}
use native.Mathlib.Nat.{pow-suc, not-suc-le-zero}
use native.Mathlib.Omega.{arith}
use lib.Dec.{eqb, eqb-suc-suc, eqb-suc-zero}
use lib.Bits.{bit_and}
use lib.Count.{count_trailing_zeros}
use borrow.Author.Tests.{eq-eqb, ne_eqb}
use Rattle.lts.specs.Bounded.{lowest, passing}
use Rattle.lts.proofs.Bounded.{below_suc}
use Rattle.rows.specs.Rows.{bit}
use Rattle.rows.proofs.Bits.{bit-and, bit-zero, bit-suc, bit-of-zero, digit-cases}
use Rattle.rows.proofs.Counts.{trailing-lowest, trailing_lt, trailing_at, trailing-before}

-- the bits that x and x - 1 share: all of x but the lowest
shared-bits : (k x : ℕ) → x < 2 ^ k → (x ≡ 0 → ⊥) → (j : ℕ) → bit x j && bit (x - 1) j ≡ bit x j && not (eqb j (lowest k (bit x)))
unfolding lowest
shared-bits zero x h ne j = absurd (ne (omega (arith, h)))
shared-bits (suc k) x h ne j = ⊎_elim (even (shared-bits k)) odd (digit-cases x)
  where
    odd : x % 2 ≡ 1 → bit x j && bit (x - 1) j ≡ bit x j && not (eqb j (cond (bit x 0) zero (suc (lowest k (λ i. bit x (suc i))))))
    odd e = at j
      where
        one : bit x 0 ≡ true
        one = bit-zero x ∙ eq-eqb (x % 2) 1 e

        low : bit (x - 1) 0 ≡ false
        low = bit-zero (x - 1) ∙ ne_eqb ((x - 1) % 2) 1 (λ z. omega (arith, e, z))

        halves : (x - 1) / 2 ≡ x / 2
        halves = omega (arith, e)

        at : (i : ℕ) → bit x i && bit (x - 1) i ≡ bit x i && not (eqb i (cond (bit x 0) zero (suc (lowest k (λ i. bit x (suc i))))))
        at zero = ap (λ (b : Bool). bit x 0 && b) (low ∙ sym (ap (λ (b : Bool). not (eqb 0 (cond b zero (suc (lowest k (λ i. bit x (suc i))))))) one))
        at (suc i) =
            ap (λ (b : Bool). bit x (suc i) && b) (bit-suc (x - 1) i ∙ ap (λ (y : ℕ). bit y i) halves ∙ sym (bit-suc x i)) ∙ and_self (bit x (suc i))
            ∙ sym (ap (λ (b : Bool). bit x (suc i) && not (eqb (suc i) (cond b zero (suc (lowest k (λ i. bit x (suc i))))))) one
            ∙ ap (λ (b : Bool). bit x (suc i) && not b) (eqb-suc-zero i) ∙ and-true (bit x (suc i)))

    even : ((y : ℕ) → y < 2 ^ k → (y ≡ 0 → ⊥) → (i : ℕ) → bit y i && bit (y - 1) i ≡ bit y i && not (eqb i (lowest k (bit y)))) → x % 2 ≡ 0 → bit x j && bit (x - 1) j ≡ bit x j && not (eqb j (cond (bit x 0) zero (suc (lowest k (λ i. bit x (suc i))))))
    even ih e = at j
      where
        none : bit x 0 ≡ false
        none = bit-zero x ∙ ne_eqb (x % 2) 1 (λ z. omega (arith, e, z))

        halves : (x - 1) / 2 ≡ x / 2 - 1
        halves = omega (arith, e)

        half : x / 2 < 2 ^ k
        half = omega (arith, rw (pow-suc 2 k) at h)

        at : (i : ℕ) → bit x i && bit (x - 1) i ≡ bit x i && not (eqb i (cond (bit x 0) zero (suc (lowest k (λ i. bit x (suc i))))))
        at zero = ap (λ (b : Bool). b && bit (x - 1) 0) none ∙ sym (ap (λ (b : Bool). b && not (eqb 0 (cond (bit x 0) zero (suc (lowest k (λ i. bit x (suc i))))))) none)
        at (suc i) =
            ap₂ (λ (a b : Bool). a && b) (bit-suc x i) (bit-suc (x - 1) i ∙ ap (λ (y : ℕ). bit y i) halves)
            ∙ ih (x / 2) half (λ z. ne (omega (arith, z, e))) i
            ∙ sym (ap₂ (λ (a b : Bool). a && not b) (bit-suc x i)
            (ap (λ (b : Bool). eqb (suc i) (cond b zero (suc (lowest k (λ i. bit x (suc i)))))) none
            ∙ eqb-suc-suc i (lowest k (λ i. bit x (suc i))) ∙ ap (eqb i) (lowest-halves)))
          where
            lowest-halves : lowest k (λ i. bit x (suc i)) ≡ lowest k (bit (x / 2))
            lowest-halves = ap (lowest k) (fun_ext (λ i. bit-suc x i))

pub drop-lowest : (x : ℕ) → x < 2 ^ 64 → (x ≡ 0 → ⊥) → (j : ℕ) → bit (bit_and x (x - 1)) j ≡ bit x j && not (eqb j (count_trailing_zeros 64 x))
drop-lowest x h ne j = bit-and x (x - 1) j ∙ shared-bits 64 x h ne j ∙ ap (λ (t : ℕ). bit x j && not (eqb j t)) (sym (trailing-lowest 64 x))

-- nothing below n passes
passing-empty : (n : ℕ) (f : ℕ → Bool) → ((j : ℕ) → j < n → f j ≡ false) → passing n f ≡ []
unfolding passing
passing-empty zero f e = refl
passing-empty (suc n) f e = rw (passing-empty n f (λ j l. e j (omega (arith, l))), e n (omega arith))

-- t is the lowest that passes f, and g is f without it
passing-first : (n t : ℕ) (f g : ℕ → Bool) → t < n → f t ≡ true → ((j : ℕ) → j < t → f j ≡ false) → ((j : ℕ) → g j ≡ f j && not (eqb j t))
    → passing n f ≡ t ∷ passing n g
unfolding passing
passing-first zero t f g l at below rest = absurd (not-suc-le-zero l)
passing-first (suc n) t f g l at below rest = ⊎_elim (λ (m : t < n). early m (passing-first n t f g m at below rest)) (λ (m : t ≡ n). late m) (below_suc l)
  where
    early : t < n → passing n f ≡ t ∷ passing n g → passing n f ++ cond (f n) (n ∷ []) [] ≡ t ∷ (passing n g ++ cond (g n) (n ∷ []) [])
    early m ih =
        let same : g n ≡ f n = rest n ∙ ap (λ (b : Bool). f n && not b) (ne_eqb n t (λ e. omega (arith, e, m))) ∙ and-true (f n) in
        rw (ih, same)

    late : t ≡ n → passing n f ++ cond (f n) (n ∷ []) [] ≡ t ∷ (passing n g ++ cond (g n) (n ∷ []) [])
    late m =
        let none = passing-empty n f (λ j k. below j (omega (arith, m, k))) in
        let others = passing-empty n g (λ j k. rest j ∙ ap (λ (b : Bool). b && not (eqb j t)) (below j (omega (arith, m, k)))) in
        let yes : f n ≡ true = ap f (sym m) ∙ at in
        let no : g n ≡ false = rest n ∙ ap (λ (b : Bool). f n && not b) (eq-eqb n t (sym m)) ∙ and-false (f n) in
        rw (none, others, yes, no, m)

-- the places of the ones of 0, and of any other word
pub ones_none : (x : ℕ) → x ≡ 0 → passing 64 (bit x) ≡ []
ones_none x e = passing-empty 64 (bit x) (λ j l. ap (λ (y : ℕ). bit y j) e ∙ bit-of-zero j)

pub ones-first : (x : ℕ) → x < 2 ^ 64 → (x ≡ 0 → ⊥) → passing 64 (bit x) ≡ count_trailing_zeros 64 x ∷ passing 64 (bit (bit_and x (x - 1)))
ones-first x h ne =
    let low = trailing_lt 64 x h ne in
    passing-first 64 (count_trailing_zeros 64 x) (bit x) (bit (bit_and x (x - 1))) low (trailing_at 64 x low) (λ j l. trailing-before 64 x j l) (drop-lowest x h ne)
