-- Laws of the ones and of the lowest one of a word, and of a row's words. Assumes nothing.
use mathlib.Core.Path.{◌≡◌, refl, sym, ap, ap₂, ◌∙◌}
use mathlib.Core.Bool.{Bool, true, false, true≢false}
use mathlib.Core.List.{List}
use mathlib.Core.Logic.{⊎_elim}
use Prim.Native.Nat.{ℕ, zero, suc, ◌+◌, ◌-◌, ◌*◌, ◌/◌, ◌%◌, ◌^◌, ◌<◌, ◌≤◌}
use native.Mathlib.Nat.{pow-suc, add-zero, eq-or-lt_of_le, lt_of_le_of_lt, div-le_self}
use native.Mathlib.Numerals.{add-one}
use native.Mathlib.Omega.{arith}
use Rattle.std.proofs.lemmas.List.Sums.{sum_by_more}
use lib.Count.{ones, ones-le, ones_step, under, count_trailing_zeros, trailing_le}
use lib.ListN.{length, get_or, take}
use lib.Seq.{get_or-take}
use Rattle.std.specs.List.{sum_by, AllWithin}
use Rattle.rows.specs.Rows.{bit, digit, in_row}
use Rattle.lts.specs.Bounded.{sum_below, count_below, lowest}
use Rattle.rows.proofs.Bits.{bit-suc, bit-shr, bit_high, bit-of-zero, digit-bit, word-ext, word-zero}
use Rattle.rows.proofs.Rows.{in_row-at, row_before}
use Rattle.lts.proofs.Count.{sum-most}
use Rattle.lts.proofs.Below.{lt-or-ge, lowest_step, lowest-at, lowest-is, lowest-none, lowest-before, lowest-cong, sum-add, sum-cong, sum-cons, sum-mul, sum-zero}

-- ---- the ones of a word

pub ones-count : (k : ℕ) {x : ℕ} → x < 2 ^ k → ones x ≡ count_below k (bit x)
unfolding sum_below count_below ones
ones-count zero {x} h = let e : x ≡ 0 = omega (arith, h) in ap ones e
ones-count (suc k) {x} h =
    let half : x / 2 < 2 ^ k = omega (arith, rw (pow-suc 2 k) at h) in
    ones_step x
    ∙ ap₂ (λ (a b : ℕ). a + b) (sym (digit-bit x)) (ones-count k half ∙ sum-cong k _ _ (λ i l. ap digit (sym (bit-suc x i))))
    ∙ sym (sum-cons k (λ i. digit (bit x i)))

-- ---- the bits of a row's words, word by word, and its states; from n on there is none

pub bits-states : (k : ℕ) (row : List ℕ) → sum_below k (λ c. count_below 64 (bit (get_or row c 0))) ≡ count_below (k * 64) (in_row row)
unfolding count_below
bits-states k row = sum-cong k _ _ (λ c hc. sum-cong 64 _ _ (λ i l. ap digit (sym (in_row-at row c i l)))) ∙ sym (sum-mul k 64 (λ q. digit (in_row row q)))

-- the ones of the words, summed
sum_by-below : (k : ℕ) (f : ℕ → ℕ) (row : List ℕ) → k ≤ length row → sum_by f (take k row) ≡ sum_below k (λ c. f (get_or row c 0))
unfolding sum_below
sum_by-below zero f row h = refl
sum_by-below (suc k) f row h =
    ap (λ (n : ℕ). sum_by f (take n row)) (sym (add-one k)) ∙ sum_by_more f row k 0 h ∙ ap (λ (n : ℕ). n + f (get_or row k 0)) (sum_by-below k f row (omega (arith, h)))

module _ (row : List ℕ) (k : ℕ) (words : (j : ℕ) → get_or row j 0 < 2 ^ 64) (h : k ≤ length row) where
  pub ones-fit : k ≤ 1024 → sum_by ones (take k row) < 2 ^ 64
  ones-fit l =
      let most = sum-most k 64 (λ c. ones (get_or row c 0)) (λ c m. ones-le 64 _ (words c)) in
      omega (arith, l, most, sum_by-below k ones row h)

  pub ones-states : sum_by ones (take k row) ≡ count_below (k * 64) (in_row row)
  ones-states = sum_by-below k ones row h ∙ sum-cong k _ _ (λ c m. ones-count 64 (words c)) ∙ bits-states k row

pub count-shorter : (n m : ℕ) (f : ℕ → Bool) → n ≤ m → ((i : ℕ) → n ≤ i → i < m → f i ≡ false) → count_below m f ≡ count_below n f
unfolding count_below
count-shorter n m f h rest =
    let room : m ≡ n + (m - n) = omega arith in
    ap (λ (k : ℕ). count_below k f) room ∙ sum-add n (m - n) (λ i. digit (f i))
    ∙ ap (λ (x : ℕ). count_below n f + x) (sum-zero (m - n) _ (λ i l. ap digit (rest (n + i) (omega arith) (omega (arith, l))))) ∙ add-zero (count_below n f)

-- ---- the trailing zeros of a word

pub trailing-lowest : (k x : ℕ) → count_trailing_zeros k x ≡ lowest k (bit x)
unfolding count_trailing_zeros lowest
trailing-lowest zero x = refl
trailing-lowest (suc k) x = ap₂ under (sym (digit-bit x)) (trailing-lowest k (x / 2) ∙ lowest-cong k _ _ (λ i. sym (bit-suc x i))) ∙ both (bit x 0) _
  where
    both : (b : Bool) (m : ℕ) → under (digit b) m ≡ lowest_step b m
    both true m = refl
    both false m = refl

-- a word that is not 0 has a lowest one: there its bit is set, and no bit below it is
pub trailing_lt : (k x : ℕ) → x < 2 ^ k → (x ≡ 0 → ⊥) → count_trailing_zeros k x < k
trailing_lt k x h ne =
    ⊎_elim (λ (e : count_trailing_zeros k x ≡ k). absurd (ne (word-ext k (λ i. false) h (λ i l.
    lowest-before k (bit x) i (omega (arith, trailing-lowest k x))) ∙ word-zero k))) (λ l. l) (eq-or-lt_of_le (trailing_le k x))

pub trailing_at : (k x : ℕ) → count_trailing_zeros k x < k → bit x (count_trailing_zeros k x) ≡ true
trailing_at k x h = rw (trailing-lowest k x) (lowest-at k (bit x) (omega (arith, trailing-lowest k x)))

pub trailing-before : (k x i : ℕ) → i < count_trailing_zeros k x → bit x i ≡ false
trailing-before k x i h = lowest-before k (bit x) i (omega (arith, trailing-lowest k x))

-- ---- the first word of a row that is not 0, among its first k

module _ (row : List ℕ) (k : ℕ) (h : k ≤ length row) where
  -- a word before place n is 0
  clear : (n : ℕ) → n ≤ k → AllWithin (λ x. x ≡ 0) (take k row) 0 n → (q : ℕ) → q < n * 64 → in_row row q ≡ false
  unfolding in_row
  clear n l blank q m =
      let here : q / 64 < n = omega arith in
      ap (λ (x : ℕ). bit x (q % 64)) (sym (get_or-take k row (q / 64) 0 (omega arith)) ∙ blank (q / 64) 0 (omega arith) here) ∙ bit-of-zero (q % 64)

  pub no-word : (c : ℕ) → k ≤ c → AllWithin (λ x. x ≡ 0) (take k row) 0 c → k * 64 ≡ lowest (k * 64) (in_row row)
  no-word c l blank = lowest-none (k * 64) (in_row row) (clear k (omega arith) (λ i d m n. blank i d m (omega (arith, l, n))))

  pub first-word : ((j : ℕ) → get_or row j 0 < 2 ^ 64) → (c : ℕ) → c < k → (get_or (take k row) c 0 ≡ 0 → ⊥) → AllWithin (λ x. x ≡ 0) (take k row) 0 c
      → c * 64 + count_trailing_zeros 64 (get_or (take k row) c 0) ≡ lowest (k * 64) (in_row row)
  first-word words c l some blank =
      let x = get_or row c 0 in
      let at = get_or-take k row c 0 l in
      let low = trailing_lt 64 x (words c) (λ e. some (at ∙ e)) in
      rw at (lowest-is (k * 64) (in_row row) (c * 64 + count_trailing_zeros 64 x) (omega (arith, low)) (in_row-at row c _ low ∙ trailing_at 64 x low)
      (row_before row c _ (omega (arith, low)) (clear c (omega arith) blank) (trailing-before 64 x)))

-- ---- the rest of a row's word from state q on: its bits, and its lowest one

module _ (row : List ℕ) (q : ℕ) where
  abbrev word : ℕ
  word = get_or row (q / 64) 0

  abbrev pub rest : ℕ
  rest = word / 2 ^ (q % 64)

  pub rest-bit : (i : ℕ) → q % 64 + i < 64 → in_row row (q + i) ≡ bit rest i
  rest-bit i l =
      let split : q + i ≡ q / 64 * 64 + (q % 64 + i) = omega arith in
      ap (in_row row) split ∙ in_row-at row (q / 64) (q % 64 + i) l ∙ sym (bit-shr word (q % 64) i)

  pub rest-none : rest ≡ 0 → (i : ℕ) → q % 64 + i < 64 → in_row row (q + i) ≡ false
  rest-none e i l = rest-bit i l ∙ ap (λ (x : ℕ). bit x i) e ∙ bit-of-zero i

  module _ (fits : word < 2 ^ 64) (some : rest ≡ 0 → ⊥) where
    abbrev zeros : ℕ
    zeros = count_trailing_zeros 64 rest

    set : bit rest zeros ≡ true
    set = trailing_at 64 rest (trailing_lt 64 rest (lt_of_le_of_lt (div-le_self word (2 ^ (q % 64))) fits) some)

    -- the lowest one is in the word
    pub rest_lt : q % 64 + zeros < 64
    rest_lt =
        ⊎_elim (λ (l : q % 64 + zeros < 64). l)
        (λ (l : 64 ≤ q % 64 + zeros). absurd (true≢false (sym set ∙ bit-shr word (q % 64) zeros ∙ bit_high 64 word (q % 64 + zeros) fits l)))
        (lt-or-ge (q % 64 + zeros) 64)

    pub rest_at : in_row row (q + zeros) ≡ true
    rest_at = rest-bit zeros rest_lt ∙ set

    pub rest-before : (i : ℕ) → i < zeros → in_row row (q + i) ≡ false
    rest-before i h = rest-bit i (omega (arith, rest_lt)) ∙ trailing-before 64 rest i h
