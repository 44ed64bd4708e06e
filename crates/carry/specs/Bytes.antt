-- Grids and 16-bit lists as bytes (document 01, "Compare": lengths are checked in bytes with the same numbers).
use Rattle.std.specs.Prelude.{ℕ, ◌*◌, ◌/◌, ◌%◌, ◌≤◌, ◌≡◌, ◌&&◌, cond, List, leb, eqb, length, take}
use Rattle.carry.specs.Carried.{numbers_of, list_of}

-- How many numbers of k bytes a buffer's bytes carry. Where a byte is left over, or there are more numbers than the largest such buffer
-- has, there are none: every buffer has a number, so that the call on numbers then refuses the length. (The law `same_length`,
-- proofs/Bytes.antt: the numbers are m, one to `most`, exactly where the bytes are k * m.)
unfoldable pub count_of : ℕ → ℕ → List ℕ → ℕ
count_of k most bytes = cond (eqb (length bytes % k) 0 && leb (length bytes) (k * most)) (length bytes / k) 0

unfoldable pub carried_by : ℕ → ℕ → List ℕ → List ℕ
carried_by k most bytes = numbers_of k (count_of k most bytes) bytes

-- the words of a grid: of 256 states, 4 words each, at most
abbrev pub words_of : List ℕ → List ℕ
words_of bytes = carried_by 8 1024 bytes

-- one 16-bit number a state: of 256 states at most
abbrev pub state_numbers : List ℕ → List ℕ
state_numbers bytes = carried_by 2 256 bytes

-- an array has room for the numbers that the bytes carry
abbrev pub Room : ℕ → ℕ → List ℕ → List ℕ → Type 0
Room k most bytes numbers = length bytes ≤ k * most → length bytes ≤ k * length numbers

-- the first r of the numbers, which are `size`, are those that the bytes carry
pub record LoadedFrom (k most size : ℕ) (bytes : List ℕ) (r : ℕ) (numbers : List ℕ) : Type 0 where
  pub few : r ≤ size
  pub long : length numbers ≡ size
  pub loaded : take r numbers ≡ carried_by k most bytes

-- what a buffer of `most` numbers holds of a schedule's bytes: its first r numbers are the first of the schedule, at most `most`
pub record LoadedSchedule (most : ℕ) (bytes : List ℕ) (r : ℕ) (numbers : List ℕ) : Type 0 where
  pub few : r ≤ most
  pub long : length numbers ≡ most
  pub loaded : take r numbers ≡ take most (list_of bytes)
