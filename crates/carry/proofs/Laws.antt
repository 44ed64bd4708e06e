-- Laws of numbers carried as bytes, over any width k: what one turn of each loop does.
use Prim.Native.Nat.{ℕ, zero, suc, ◌+◌, ◌-◌, ◌*◌, ◌/◌, ◌%◌, ◌^◌, ◌<◌, ◌≤◌}
use mathlib.Core.Path.{◌≡◌, refl, sym, ap, ◌∙◌}
use mathlib.Core.List.{List, [], ◌∷◌, ◌++◌, append_assoc, append-nil}
use native.Mathlib.Nat.{pow-le-pow_right, pow-suc, not-suc-le-zero, le_of_suc-le-suc, mul-suc, mul-zero}
use native.Mathlib.Numerals.{add-one, sub-one}
use native.Mathlib.Omega.{arith}
use lib.Dec.{lit<}
use lib.ListN.{length, get_or, take, drop, set, length-append, length-drop, take-append-drop}
use lib.Seq.{append_snoc, take-suc, take-suc-set, take-length, take_at, take-add, drop-cons, drop-drop, drop_at, drop-length, set_at, length-take-le, slice, slice_empty, slice-cons}
use Rattle.carry.specs.Carried.{number_of, digits, numbers_of, bytes_of, loaded, stored}

-- Reading a number, from its last byte down: x is what the bytes from j to t carry.
pub number-start : (t : ℕ) (b : List ℕ) → 0 ≡ number_of (slice t t b)
unfolding number_of
number-start t b = rw (slice_empty t b)

pub number-down : (j t x : ℕ) (b : List ℕ) → 0 < j → j ≤ t → t ≤ length b → x ≡ number_of (slice j t b) → x * 256 + get_or b (j - 1) 0 ≡ number_of (slice (j - 1) t b)
unfolding number_of
number-down zero t x b h l m e = absurd (not-suc-le-zero h)
number-down (suc i) t x b h l m e = rw (sub-one (suc i), slice-cons i t b 0 l m, ← e) (omega arith)

pub number-done : (at k x : ℕ) (b : List ℕ) → at + k ≤ length b → x ≡ number_of (slice at (at + k) b) → x ≡ number_of (take k (drop at b))
number-done at k x b h e = rw (take-add, drop_at (take at b) (take k (drop at b)) at (length-take-le at b (omega arith))) at e

-- one byte more fits a word
pub number_fits : (j x y : ℕ) → j < 8 → x < 256 ^ j → y < 256 → x * 256 + y < 2 ^ 64
number_fits j x y h l g = let p = pow-le-pow_right {n = 256} (lit< tt) {i = j} {j = 7} (omega arith) in omega arith

pub bound-start : (t : ℕ) → 0 < 256 ^ (t - t)
bound-start t = let e : t - t ≡ 0 = omega arith in rw e (lit< tt)

pub bound-down : (j t x y : ℕ) → 0 < j → j ≤ t → x < 256 ^ (t - j) → y < 256 → x * 256 + y < 256 ^ (t - (j - 1))
bound-down j t x y h l b g = let e : t - (j - 1) ≡ suc (t - j) = omega arith in rw (e, pow-suc 256 (t - j)) (omega arith)

-- Writing a number: the bytes to j are written, and `digits (t - j) x` and `rest` are still to come.
pub digits-length : (k x : ℕ) → length (digits k x) ≡ k
unfolding digits
digits-length zero x = refl
digits-length (suc k) x = ap suc (digits-length k (x / 256))

module _ {T : List ℕ} (j t x : ℕ) (b rest : List ℕ) where
  pub digits_more : j < t → t ≤ length b → take j b ++ (digits (t - j) x ++ rest) ≡ T → take (j + 1) (set b j (x % 256)) ++ (digits (t - (j + 1)) (x / 256) ++ rest) ≡ T
  unfolding digits
  digits_more h l e = let d : t - j ≡ suc (t - suc j) = omega arith in rw (add-one, take-suc-set b j (x % 256) (omega arith), append_snoc) (rw d at e)

  pub digits-done : j ≡ t → drop t b ≡ rest → take j b ++ (digits (t - j) x ++ rest) ≡ T → b ≡ T
  unfolding digits
  digits-done h l e = let d : t - j ≡ 0 = omega arith in sym (take-append-drop t b) ∙ (rw (d, h, ← l) at e)

-- Reading numbers: i of them are read, the rest is as it was.
pub numbers-length : (k n : ℕ) (bs : List ℕ) → length (numbers_of k n bs) ≡ n
unfolding numbers_of
numbers-length k zero bs = refl
numbers-length k (suc n) bs = ap suc (numbers-length k n (drop k bs))

-- number i of those that the bytes carry
pub numbers-at : (k n i : ℕ) (bs : List ℕ) → i < n → get_or (numbers_of k n bs) i 0 ≡ number_of (take k (drop (k * i) bs))
unfolding numbers_of
numbers-at k zero i bs h = absurd (not-suc-le-zero h)
numbers-at k (suc n) zero bs h = rw mul-zero
numbers-at k (suc n) (suc i) bs h =
    let e : k + k * i ≡ k * suc i = rw mul-suc (omega arith) in
    rw (← e, ← drop-drop (k * i) k bs) (numbers-at k n i (drop k bs) (le_of_suc-le-suc h))

numbers-snoc : (k n : ℕ) (bs : List ℕ) → numbers_of k (suc n) bs ≡ numbers_of k n bs ++ (number_of (take k (drop (k * n) bs)) ∷ [])
unfolding numbers_of
numbers-snoc k zero bs = rw mul-zero
numbers-snoc k (suc n) bs =
    let e : k + k * n ≡ k * suc n = rw mul-suc (omega arith) in
    rw (← e, ← drop-drop (k * n) k bs, ← numbers-snoc k n (drop k bs))

-- n numbers are in the first k * n bytes
pub numbers-front : (k n : ℕ) (bs : List ℕ) → k * n ≤ length bs → numbers_of k n (take (k * n) bs) ≡ numbers_of k n bs
unfolding numbers_of
numbers-front k zero bs h = refl
numbers-front k (suc n) bs h =
    let e : k * suc n ≡ k + k * n = mul-suc k n ∙ omega arith in
    let l : length (take k bs) ≡ k = length-take-le k bs (omega arith) in
    let front : take k (take (k * suc n) bs) ≡ take k bs = rw (e, take-add k (k * n) bs) (take_at (take k bs) (take (k * n) (drop k bs)) k l) in
    let rest : drop k (take (k * suc n) bs) ≡ take (k * n) (drop k bs) = rw (e, take-add k (k * n) bs) (drop_at (take k bs) (take (k * n) (drop k bs)) k l) in
    rw (front, rest, numbers-front k n (drop k bs) (omega (arith, length-drop k bs)))

-- the first m of them
pub numbers-take : (k m n : ℕ) (bs : List ℕ) → m ≤ n → take m (numbers_of k n bs) ≡ numbers_of k m bs
unfolding numbers_of
numbers-take k zero n bs h = refl
numbers-take k (suc m) zero bs h = absurd (not-suc-le-zero h)
numbers-take k (suc m) (suc n) bs h = ap (λ (l : List ℕ). number_of (take k bs) ∷ l) (numbers-take k m n (drop k bs) (le_of_suc-le-suc h))

module _ (k i : ℕ) (bs entry xs : List ℕ) (e : xs ≡ numbers_of k i bs ++ drop i entry) where
  pub numbers_more : (x : ℕ) → i < length entry → x ≡ number_of (take k (drop (k * i) bs)) → set xs i x ≡ numbers_of k (i + 1) bs ++ drop (i + 1) entry
  numbers_more x h g =
      rw (e, add-one, drop-cons entry i 0 h, set_at (numbers_of k i bs) (get_or entry i 0) (drop (suc i) entry) x i (numbers-length k i bs), numbers-snoc k i bs, append_snoc, ← g)

  pub numbers-done : i ≡ length bs / k → xs ≡ loaded k bs entry
  unfolding loaded
  numbers-done h = rw h at e

-- Writing numbers: the bytes of i of them are written, the rest is as it was.
pub bytes-length : (k : ℕ) (xs : List ℕ) → length (bytes_of k xs) ≡ k * length xs
unfolding bytes_of
bytes-length k [] = sym (mul-zero k)
bytes-length k (x ∷ xs) = length-append (digits k x) (bytes_of k xs) ∙ (rw (digits-length k x, bytes-length k xs, mul-suc) (omega arith))

bytes-snoc : (k : ℕ) (xs : List ℕ) (x : ℕ) → bytes_of k (xs ++ (x ∷ [])) ≡ bytes_of k xs ++ digits k x
unfolding bytes_of
bytes-snoc k [] x = append-nil (digits k x)
bytes-snoc k (y ∷ xs) x = rw (bytes-snoc k xs x, append_assoc)

module _ (k i : ℕ) (xs entry bs : List ℕ) (e : bs ≡ bytes_of k (take i xs) ++ drop (k * i) entry) where
  pub bytes-more : (ys : List ℕ) → i < length xs → ys ≡ take (k * i) bs ++ (digits k (get_or xs i 0) ++ drop (k * i + k) bs) → ys ≡ bytes_of k (take (i + 1) xs) ++ drop (k * (i + 1)) entry
  bytes-more ys h g =
      let w = bytes_of k (take i xs) in
      let n : length w ≡ k * i = bytes-length k (take i xs) ∙ (rw (length-take-le i xs (omega arith))) in
      g ∙ (rw (← drop-drop k (k * i) bs, e, take_at w (drop (k * i) entry) (k * i) n, drop_at w (drop (k * i) entry) (k * i) n, add-one, take-suc xs i 0 h, bytes-snoc, mul-suc, append_assoc, drop-drop))

  pub bytes-done : i ≡ length xs → bs ≡ stored k xs entry
  unfolding stored
  bytes-done h = rw (h, take-length) at e

-- what was read into the front of a buffer
pub loaded-front : (k : ℕ) (bytes old numbers : List ℕ) → numbers ≡ loaded k bytes old → take (length bytes / k) numbers ≡ numbers_of k (length bytes / k) bytes
unfolding loaded
loaded-front k bytes old numbers e = rw e (take_at (numbers_of k (length bytes / k) bytes) (drop (length bytes / k) old) (length bytes / k) (numbers-length k (length bytes / k) bytes))

-- A list that the bytes fill, or that fills the bytes, is the carried list alone.
pub loaded-all : (k : ℕ) (bs xs : List ℕ) → length xs ≡ length bs / k → loaded k bs xs ≡ numbers_of k (length xs) bs
unfolding loaded
loaded-all k bs xs h = rw (← h, drop-length, append-nil)

pub stored-all : (k : ℕ) (xs bs : List ℕ) → length bs ≡ k * length xs → stored k xs bs ≡ bytes_of k xs
unfolding stored
stored-all k xs bs h = rw (← h, drop-length, append-nil)
