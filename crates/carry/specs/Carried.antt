-- Numbers carried as bytes, low byte first (document 01, "Compare": grids and 16-bit lists of the release tool), over any width.
use Rattle.std.specs.Prelude.{ℕ, zero, suc, ◌+◌, ◌*◌, ◌/◌, ◌%◌, List, [], ◌∷◌, ◌++◌, length, take, drop}

-- the number that bytes carry
unfoldable pub number_of : List ℕ → ℕ
number_of [] = 0
number_of (b ∷ bs) = b + 256 * number_of bs

-- the k bytes that carry x
unfoldable pub digits : ℕ → ℕ → List ℕ
digits zero x = []
digits (suc k) x = x % 256 ∷ digits k (x / 256)

-- the n numbers that bytes carry, k bytes each
unfoldable pub numbers_of : ℕ → ℕ → List ℕ → List ℕ
numbers_of k zero bs = []
numbers_of k (suc n) bs = number_of (take k bs) ∷ numbers_of k n (drop k bs)

-- a list of 16-bit numbers of any length; an odd last byte is ignored
unfoldable pub list_of : List ℕ → List ℕ
list_of bytes = numbers_of 2 (length bytes / 2) bytes

-- the bytes that carry numbers, k bytes each
unfoldable pub bytes_of : ℕ → List ℕ → List ℕ
bytes_of k [] = []
bytes_of k (x ∷ xs) = digits k x ++ bytes_of k xs

-- a list of numbers after the numbers that bs carries were read into its front; a last part of fewer than k bytes is ignored
unfoldable pub loaded : ℕ → List ℕ → List ℕ → List ℕ
loaded k bs xs = numbers_of k (length bs / k) bs ++ drop (length bs / k) xs

-- bytes after those that carry xs were written into their front
unfoldable pub stored : ℕ → List ℕ → List ℕ → List ℕ
stored k xs bs = bytes_of k xs ++ drop (k * length xs) bs
