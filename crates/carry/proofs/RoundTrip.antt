-- Bytes to numbers and back, and numbers to bytes and back, k bytes each.
use Prim.Native.Nat.{ℕ, zero, suc, ◌+◌, ◌*◌, ◌/◌, ◌%◌, ◌^◌, ◌<◌, ◌≤◌}
use mathlib.Core.Path.{◌≡◌, refl, sym, ap, ◌∙◌}
use mathlib.Core.List.{List, [], ◌∷◌, ◌++◌, append_assoc, append-nil}
use native.Mathlib.Nat.{pow-suc, mul-suc, mul-zero, not-suc-le-zero, le_of_suc-le-suc}
use native.Mathlib.Omega.{arith}
use lib.ListN.{length, get_or, take, drop, take-append-drop, length-drop}
use lib.Seq.{take_at, drop_at, drop-drop, drop-length, length-take-le, get_or-take, get_or-drop}
use Rattle.carry.specs.Carried.{number_of, digits, numbers_of, bytes_of, stored}
use Rattle.carry.proofs.Laws.{digits-length, numbers-length}

-- every element is below m
abbrev pub Below : ℕ → List ℕ → Type 0
Below m l = (i : ℕ) → i < length l → get_or l i 0 < m

digits_number : (bs : List ℕ) → Below 256 bs → digits (length bs) (number_of bs) ≡ bs
unfolding digits number_of
digits_number [] b = refl
digits_number (x ∷ bs) b =
    let h : x < 256 = b 0 (omega arith) in
    let r : (x + 256 * number_of bs) % 256 ≡ x = omega arith in
    let q : (x + 256 * number_of bs) / 256 ≡ number_of bs = omega arith in
    rw (r, q, digits_number bs (λ i l. b (suc i) (omega arith)))

number_digits : (k x : ℕ) → x < 256 ^ k → number_of (digits k x) ≡ x
unfolding digits number_of
number_digits zero x h = omega arith
number_digits (suc k) x h =
    let g : x < 256 ^ k * 256 = rw (pow-suc 256 k) at h in
    let l : x / 256 < 256 ^ k = omega arith in
    rw (number_digits k (x / 256) l) (omega arith)

-- the first n numbers, and the bytes that they leave over
pub bytes-front : (k n : ℕ) (bs : List ℕ) → k * n ≤ length bs → Below 256 bs → bytes_of k (numbers_of k n bs) ++ drop (k * n) bs ≡ bs
unfolding bytes_of numbers_of
bytes-front k zero bs h b = rw mul-zero
bytes-front k (suc n) bs h b =
    let e : k * suc n ≡ k + k * n = mul-suc k n ∙ omega arith in
    let t : length (take k bs) ≡ k = length-take-le k bs (omega arith) in
    let head : digits k (number_of (take k bs)) ≡ take k bs = rw t at (digits_number (take k bs) (λ i l. rw (get_or-take k bs i 0 (omega arith)) (b i (omega arith)))) in
    let rest = bytes-front k n (drop k bs) (omega (arith, length-drop k bs)) (λ i l. rw (get_or-drop k bs i 0) (b (k + i) (omega (arith, length-drop k bs)))) in
    rw (head, e, ← drop-drop (k * n) k bs, append_assoc, rest) (take-append-drop k bs)

pub bytes-round : (k n : ℕ) (bs : List ℕ) → length bs ≡ k * n → Below 256 bs → bytes_of k (numbers_of k n bs) ≡ bs
bytes-round k n bs e b = rw (← e, drop-length, append-nil) at (bytes-front k n bs (omega arith) b)

stored-cons : (k x : ℕ) (xs bs : List ℕ) → stored k (x ∷ xs) bs ≡ digits k x ++ stored k xs (drop k bs)
unfolding stored bytes_of
stored-cons k x xs bs =
    let e : k * suc (length xs) ≡ k + k * length xs = mul-suc k (length xs) ∙ omega arith in
    rw (append_assoc, e, drop-drop)

-- storing xs and then the numbers that the bytes carry after as many is storing xs
pub stored-front : (k n : ℕ) (xs bs : List ℕ) → k * n ≤ length bs → Below 256 bs → length xs ≤ n → stored k (xs ++ drop (length xs) (numbers_of k n bs)) bs ≡ stored k xs bs
unfolding stored bytes_of numbers_of
stored-front k n [] bs h b l = rw (numbers-length k n bs, mul-zero) (bytes-front k n bs h b)
stored-front k zero (x ∷ xs) bs h b l = absurd (not-suc-le-zero l)
stored-front k (suc n) (x ∷ xs) bs h b l =
    let e : k * suc n ≡ k + k * n = mul-suc k n ∙ omega arith in
    stored-cons k x (xs ++ drop (length xs) (numbers_of k n (drop k bs))) bs
    ∙ ap (λ (l : List ℕ). digits k x ++ l) (stored-front k n xs (drop k bs) (omega (arith, length-drop k bs)) (λ i l. rw (get_or-drop k bs i 0) (b (k + i) (omega (arith, length-drop k bs)))) (le_of_suc-le-suc l))
    ∙ sym (stored-cons k x xs bs)

pub numbers-round : (k : ℕ) (xs : List ℕ) → Below (256 ^ k) xs → numbers_of k (length xs) (bytes_of k xs) ≡ xs
unfolding bytes_of numbers_of
numbers-round k [] b = refl
numbers-round k (x ∷ xs) b =
    rw (take_at (digits k x) (bytes_of k xs) k (digits-length k x), drop_at (digits k x) (bytes_of k xs) k (digits-length k x), number_digits k x (b 0 (omega arith)), numbers-round k xs (λ i l. b (suc i) (omega arith)))
