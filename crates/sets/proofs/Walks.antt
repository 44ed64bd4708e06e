-- A walk over the bits of a word from the lowest up: `x & (x - 1)` drops the lowest one. Assumes nothing.
use mathlib.Core.Path.{◌≡◌, refl, sym, ap, ap₂, ◌∙◌, fun_ext}
use mathlib.Core.Bool.{Bool, true, false, cond, not, ◌&&◌, and-true, and-false, and_self}
use mathlib.Core.Logic.{⊎_elim}
use Prim.Native.Nat.{ℕ, zero, suc, ◌+◌, ◌-◌, ◌/◌, ◌%◌, ◌^◌, ◌≤◌, ◌<◌}
use native.Mathlib.Nat.{pow-suc}
use native.Mathlib.Omega.{arith}
use lib.Dec.{eqb, eqb-suc-suc, eqb-suc-zero}
use lib.Bits.{bit_and, and_le_l, and_le_r}
use lib.Count.{count_trailing_zeros}
use borrow.Author.Tests.{eq-eqb, ne_eqb}
use Rattle.lts.specs.Bounded.{lowest}
use Rattle.lts.proofs.Below.{clash, lt-or-ge, and-fst}
use Rattle.rows.specs.Rows.{bit}
use Rattle.rows.proofs.Bits.{bit-and, bit-zero, bit-suc, bit-of-zero, digit-cases}
use Rattle.rows.proofs.Counts.{trailing-lowest, trailing_lt, trailing_at, trailing-before}

-- the bits that x and x - 1 share: all of x but the lowest
shared-bits : (k x : ℕ) → x < 2 ^ k → (x ≡ 0 → ⊥) → (j : ℕ) → bit x j && bit (x - 1) j ≡ bit x j && not (eqb j (lowest k (bit x)))
unfolding lowest
shared-bits zero x h ne j = absurd (ne (omega (arith, h)))
shared-bits (suc k) x h ne j = ⊎_elim (even (shared-bits k)) odd (digit-cases x)
  where
    odd : x % 2 ≡ 1 → bit x j && bit (x - 1) j ≡ bit x j && not (eqb j (cond (bit x 0) zero (suc (lowest k (λ i. bit x (suc i))))))
    odd e = at j
      where
        one : bit x 0 ≡ true
        one = bit-zero x ∙ eq-eqb (x % 2) 1 e

        low : bit (x - 1) 0 ≡ false
        low = bit-zero (x - 1) ∙ ne_eqb ((x - 1) % 2) 1 (λ z. omega (arith, e, z))

        halves : (x - 1) / 2 ≡ x / 2
        halves = omega (arith, e)

        at : (i : ℕ) → bit x i && bit (x - 1) i ≡ bit x i && not (eqb i (cond (bit x 0) zero (suc (lowest k (λ i. bit x (suc i))))))
        at zero = ap (λ (b : Bool). bit x 0 && b) (low ∙ sym (ap (λ (b : Bool). not (eqb 0 (cond b zero (suc (lowest k (λ i. bit x (suc i))))))) one))
        at (suc i) =
            ap (λ (b : Bool). bit x (suc i) && b) (bit-suc (x - 1) i ∙ ap (λ (y : ℕ). bit y i) halves ∙ sym (bit-suc x i)) ∙ and_self (bit x (suc i))
            ∙ sym (ap (λ (b : Bool). bit x (suc i) && not (eqb (suc i) (cond b zero (suc (lowest k (λ i. bit x (suc i))))))) one
            ∙ ap (λ (b : Bool). bit x (suc i) && not b) (eqb-suc-zero i) ∙ and-true (bit x (suc i)))

    even : ((y : ℕ) → y < 2 ^ k → (y ≡ 0 → ⊥) → (i : ℕ) → bit y i && bit (y - 1) i ≡ bit y i && not (eqb i (lowest k (bit y)))) → x % 2 ≡ 0 → bit x j && bit (x - 1) j ≡ bit x j && not (eqb j (cond (bit x 0) zero (suc (lowest k (λ i. bit x (suc i))))))
    even ih e = at j
      where
        none : bit x 0 ≡ false
        none = bit-zero x ∙ ne_eqb (x % 2) 1 (λ z. omega (arith, e, z))

        halves : (x - 1) / 2 ≡ x / 2 - 1
        halves = omega (arith, e)

        half : x / 2 < 2 ^ k
        half = omega (arith, rw (pow-suc 2 k) at h)

        at : (i : ℕ) → bit x i && bit (x - 1) i ≡ bit x i && not (eqb i (cond (bit x 0) zero (suc (lowest k (λ i. bit x (suc i))))))
        at zero = ap (λ (b : Bool). b && bit (x - 1) 0) none ∙ sym (ap (λ (b : Bool). b && not (eqb 0 (cond (bit x 0) zero (suc (lowest k (λ i. bit x (suc i))))))) none)
        at (suc i) =
            ap₂ (λ (a b : Bool). a && b) (bit-suc x i) (bit-suc (x - 1) i ∙ ap (λ (y : ℕ). bit y i) halves)
            ∙ ih (x / 2) half (λ z. ne (omega (arith, z, e))) i
            ∙ sym (ap₂ (λ (a b : Bool). a && not b) (bit-suc x i)
            (ap (λ (b : Bool). eqb (suc i) (cond b zero (suc (lowest k (λ i. bit x (suc i)))))) none
            ∙ eqb-suc-suc i (lowest k (λ i. bit x (suc i))) ∙ ap (eqb i) (lowest-halves)))
          where
            lowest-halves : lowest k (λ i. bit x (suc i)) ≡ lowest k (bit (x / 2))
            lowest-halves = ap (lowest k) (fun_ext (λ i. bit-suc x i))

pub drop-lowest : (x : ℕ) → x < 2 ^ 64 → (x ≡ 0 → ⊥) → (j : ℕ) → bit (bit_and x (x - 1)) j ≡ bit x j && not (eqb j (count_trailing_zeros 64 x))
drop-lowest x h ne j = bit-and x (x - 1) j ∙ shared-bits 64 x h ne j ∙ ap (λ (t : ℕ). bit x j && not (eqb j t)) (sym (trailing-lowest 64 x))

-- r has the bits of the word w at i and above, and none below
pub record Rest (w i r : ℕ) : Type 0 where
  pub small : r < 2 ^ 64
  pub place : i ≤ 64
  pub gone : (j : ℕ) → j < i → bit r j ≡ false
  pub left : (j : ℕ) → i ≤ j → j < 64 → bit r j ≡ bit w j

pub rest-begin : (w : ℕ) → w < 2 ^ 64 → Rest w 0 w
rest-begin w h = record { small = h; place = omega arith; gone = λ j l. absurd (omega (arith, l)); left = λ j l m. refl }

-- the next bit, and what is left above it
pub record Stepped (w i r t : ℕ) : Type 0 where
  pub above : i ≤ t
  pub below : t < 64
  pub member : bit w t ≡ true
  pub none : (j : ℕ) → i ≤ j → j < t → bit w j ≡ false
  pub rest : Rest w (t + 1) (bit_and r (r - 1))

module _ (w i r : ℕ) (now : Rest w i r) (ne : r ≡ 0 → ⊥) where
  abbrev t : ℕ
  t = count_trailing_zeros 64 r

  below : t < 64
  below = trailing_lt 64 r now.small ne

  above : i ≤ t
  above = ⊎_elim (λ (l : t < i). absurd (clash (trailing_at 64 r below) (now.gone t l))) (λ (l : i ≤ t). l) (lt-or-ge t i)

  gone : (j : ℕ) → j < t + 1 → bit (bit_and r (r - 1)) j ≡ false
  gone j l =
      drop-lowest r now.small ne j
      ∙ ⊎_elim (λ (m : j < t). ap (λ (b : Bool). b && not (eqb j t)) (trailing-before 64 r j m))
      (λ (m : t ≤ j). ap (λ (b : Bool). bit r j && not b) (eq-eqb j t (omega (arith, l, m))) ∙ and-false (bit r j)) (lt-or-ge j t)

  stays : (j : ℕ) → t + 1 ≤ j → j < 64 → bit (bit_and r (r - 1)) j ≡ bit w j
  stays j l m =
      drop-lowest r now.small ne j ∙ ap (λ (b : Bool). bit r j && not b) (ne_eqb j t (λ e. omega (arith, e, l))) ∙ and-true (bit r j)
      ∙ now.left j (omega (arith, l, above)) m

  pub rest-next : Stepped w i r (count_trailing_zeros 64 r)
  rest-next = record {
    above = above;
    below = below;
    member = sym (now.left t above below) ∙ trailing_at 64 r below;
    none = λ j l m. sym (now.left j l (omega (arith, m, below))) ∙ trailing-before 64 r j m;
    rest = record { small = omega (arith, and_le_l r (r - 1), now.small); place = omega (arith, below); gone = gone; left = stays };
  }

pub rest_end : (w i r : ℕ) → Rest w i r → r ≡ 0 → (j : ℕ) → i ≤ j → j < 64 → bit w j ≡ false
rest_end w i r now e j l m = sym (now.left j l m) ∙ ap (λ (x : ℕ). bit x j) e ∙ bit-of-zero j

-- ---- bits that leave the word, the lowest first or many at once

-- `left` is a part of the word
pub record Part (word left : ℕ) : Type 0 where
  pub small : left < 2 ^ 64
  pub within : (j : ℕ) → j < 64 → bit left j ≡ true → bit word j ≡ true

pub part-all : (word : ℕ) → word < 2 ^ 64 → Part word word
part-all word h = record { small = h; within = λ j l e. e }

-- bits leave without a walk
pub part-drop : (word left mask : ℕ) → Part word left → Part word (bit_and left mask)
part-drop word left mask part = record {
  small = omega (arith, and_le_l left mask, part.small);
  within = λ j l e. part.within j l (and-fst (bit left j) (bit mask j) (sym (bit-and left mask j) ∙ e));
}

module _ (word left : ℕ) (part : Part word left) (ne : left ≡ 0 → ⊥) where
  abbrev low : ℕ
  low = count_trailing_zeros 64 left

  pub low-lt : count_trailing_zeros 64 left < 64
  low-lt = trailing_lt 64 left part.small ne

  pub low-in : bit left (count_trailing_zeros 64 left) ≡ true
  low-in = trailing_at 64 left low-lt

  pub part-less : bit_and left (left - 1) < left
  part-less = omega (arith, and_le_r left (left - 1), some)
    where
      some : 0 < left
      some = ⊎_elim (λ (l : 0 < left). l) (λ (l : left ≤ 0). absurd (ne (omega (arith, l)))) (lt-or-ge 0 left)

  pub part-next : Part word (bit_and left (left - 1))
  part-next = record {
    small = omega (arith, part-less, part.small);
    within = λ j l e. part.within j l (and-fst (bit left j) (not (eqb j low)) (sym (drop-lowest left part.small ne j) ∙ e));
  }
