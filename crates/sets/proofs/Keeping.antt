-- A walk over the bits of a word that keeps those that pass a test; and a set that is kept so, word by word. Assumes nothing.
use mathlib.Core.Path.{◌≡◌, refl, sym, ap, ap₂, ◌∙◌, subst⁻¹}
use mathlib.Core.Bool.{Bool, true, false, cond, not, ◌&&◌, ◌||◌, and-true, and-false, and-not_self, true≢false}
use mathlib.Core.List.{List}
use Prim.Native.Nat.{ℕ, ◌+◌, ◌-◌, ◌*◌, ◌%◌, ◌^◌, ◌<◌}
use native.Mathlib.Nat.{mod-lt}
use native.Mathlib.Omega.{arith}
use lib.Bits.{bit_and, bit_or, or_lt}
use lib.Count.{count_trailing_zeros}
use lib.Dec.{eqb}
use lib.ListN.{get_or}
use lib.Pow.{pow_pos}
use borrow.Author.Tests.{eqb-true}
use Rattle.lts.specs.System.{Set}
use Rattle.rows.specs.Rows.{bit, word_of, word_at, in_row}
use Rattle.rows.proofs.Bits.{bit-or, bit-of-zero, bit-pow, bit-word_of, word_of-lt, one_shl, word-ext}
use Rattle.rows.proofs.Rows.{in_row-at, word-at}
use Rattle.sets.proofs.Walks.{Part, part-all, part-next, low-lt, low-in, drop-lowest}

-- a bit that is set if the test passes
bit-if : (b : Bool) (t j : ℕ) → t < 64 → bit (cond b 1 0 * 2 ^ t % 2 ^ 64) j ≡ eqb j t && b
bit-if true t j h = ap (λ (x : ℕ). bit x j) (one_shl t h) ∙ bit-pow t j ∙ sym (and-true (eqb j t))
bit-if false t j h = let z : 0 * 2 ^ t % 2 ^ 64 ≡ 0 = omega arith in ap (λ (x : ℕ). bit x j) z ∙ bit-of-zero j ∙ sym (and-false (eqb j t))

module _ (w : ℕ) (G : Set) where
  -- `left` is a part of w, and `out` has those bits of the rest that pass the test
  pub record Keeping (left out : ℕ) : Type 0 where
    pub part : Part w left
    pub kept : out ≡ word_of 64 (λ j. (bit w j && not (bit left j)) && G j)

  pub keep-begin : w < 2 ^ 64 → Keeping w 0
  keep-begin h = record {
    part = part-all w h;
    kept = word-ext 64 _ (pow_pos 64) (λ j l. bit-of-zero j ∙ sym (ap (λ (b : Bool). b && G j) (and-not_self (bit w j))));
  }

  pub keep-more : {left out d : ℕ} → Keeping left out → (left ≡ 0 → ⊥) → d ≡ cond (G (count_trailing_zeros 64 left)) 1 0
      → Keeping (bit_and left (left - 1)) (bit_or out (d * 2 ^ count_trailing_zeros 64 left % 2 ^ 64))
  keep-more {left} {out} {d} k ne e = record {
    part = part-next w left k.part ne;
    kept = word-ext 64 _ (or_lt 64 _ _ (subst⁻¹ (λ (x : ℕ). x < 2 ^ 64) k.kept (word_of-lt 64 _)) (mod-lt (d * 2 ^ low) (pow_pos 64))) at;
  }
    where
      low : ℕ
      low = count_trailing_zeros 64 left

      -- by the tests: the word's bit, the bit of what is left, whether it is the lowest, and the test there and at the lowest
      cases : (b l t a a₀ : Bool) → (l ≡ true → b ≡ true) → (t ≡ true → l ≡ true) → (t ≡ true → a ≡ a₀)
          → ((b && not l) && a) || (t && a₀) ≡ (b && not (l && not t)) && a
      cases true true true a a₀ s m q = sym (q refl)
      cases true true false a a₀ s m q = refl
      cases true false true a a₀ s m q = absurd (true≢false (sym (m refl)))
      cases true false false true a₀ s m q = refl
      cases true false false false a₀ s m q = refl
      cases false true t a a₀ s m q = absurd (true≢false (sym (s refl)))
      cases false false true a a₀ s m q = absurd (true≢false (sym (m refl)))
      cases false false false a a₀ s m q = refl

      at : (j : ℕ) → j < 64 → bit (bit_or out (d * 2 ^ low % 2 ^ 64)) j ≡ (bit w j && not (bit (bit_and left (left - 1)) j)) && G j
      at j l =
          bit-or out (d * 2 ^ low % 2 ^ 64) j
          ∙ ap₂ ◌||◌ (ap (λ (x : ℕ). bit x j) k.kept ∙ bit-word_of 64 _ j l)
          (ap (λ (x : ℕ). bit (x * 2 ^ low % 2 ^ 64) j) e ∙ bit-if (G low) low j (low-lt w left k.part ne))
          ∙ cases (bit w j) (bit left j) (eqb j low) (G j) (G low) (k.part.within j l)
          (λ t. ap (bit left) (eqb-true j low t) ∙ low-in w left k.part ne) (λ t. ap G (eqb-true j low t))
          ∙ sym (ap (λ (b : Bool). (bit w j && not b) && G j) (drop-lowest left k.part.small ne j))

  pub keep-end : {left out : ℕ} → Keeping left out → left ≡ 0 → out ≡ word_of 64 (λ j. bit w j && G j)
  keep-end {left} k z =
      k.kept ∙ word-ext 64 _ (word_of-lt 64 _) (λ j l. bit-word_of 64 _ j l
      ∙ ap (λ (b : Bool). (bit w j && not b) && G j) (ap (λ (x : ℕ). bit x j) z ∙ bit-of-zero j) ∙ ap (λ (b : Bool). b && G j) (and-true (bit w j)))

-- word c of the members of a set that pass a test, which F is at the states of that word
pub kept_word : (set : List ℕ) (G F : Set) (c : ℕ) {x : ℕ} → x ≡ word_of 64 (λ i. bit (get_or set c 0) i && F (64 * c + i))
    → ((i : ℕ) → i < 64 → F (64 * c + i) ≡ G (64 * c + i)) → x ≡ word_at (λ q. in_row set q && G q) c
kept_word set G F c e same =
    e ∙ word-at _ c (word_of-lt 64 _) (λ i l.
    let place : 64 * c + i ≡ c * 64 + i = omega arith in
    bit-word_of 64 _ i l ∙ ap₂ ◌&&◌ (sym (in_row-at set c i l)) (same i l ∙ ap G place))
