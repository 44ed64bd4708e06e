-- Sets of states as rows of 64-bit words (document 01, "Grids").
use Rattle.std.specs.Prelude.{◌≡◌, ◌≢◌, ◌-◌, bit_and, Option, MatchOption, Bool, true, false, cond, ◌&&◌, List, ℕ, zero, suc, ◌+◌, ◌*◌, ◌/◌, ◌%◌, ◌^◌, ◌<◌, ◌≤◌, eqb, ltb, length, get_or}
use Rattle.std.specs.Int.Count.{count_trailing_zeros}
use Rattle.lts.specs.Bounded.{◌⇒◌, all_below, list_below}
use Rattle.lts.specs.System.{Set}

-- bit i of x, bit 0 the lowest
unfoldable pub bit : ℕ → ℕ → Bool
bit x i = eqb (x / 2 ^ i % 2) 1

abbrev pub digit : Bool → ℕ
digit b = cond b 1 0

-- the number of k bits whose bit i is f i
unfoldable pub word_of : ℕ → Set → ℕ
word_of zero f = 0
word_of (suc k) f = word_of k (λ i. f (suc i)) * 2 + digit (f 0)

-- the set of states that a row of words holds: state q is bit q mod 64 of word q / 64
unfoldable pub in_row : List ℕ → Set
in_row row q = bit (get_or row (q / 64) 0) (q % 64)

-- word c of the set S
unfoldable pub word_at : Set → ℕ → ℕ
word_at S c = word_of 64 (λ i. S (c * 64 + i))

-- k words that hold the set S
abbrev pub row_of : ℕ → Set → List ℕ
row_of k S = list_below k (word_at S)

-- w, the words of a row of n states
abbrev pub row_words : ℕ → ℕ
row_words n = (n + 63) / 64

-- the members of S below n
abbrev pub states_below : ℕ → Set → Set
states_below n S q = ltb q n && S q

-- the list holds a set of states below n in its first w words
pub record Row (n : ℕ) (row : List ℕ) : Type 0 where
  pub long : row_words n ≤ length row
  pub clear : (q : ℕ) → n ≤ q → q < row_words n * 64 → in_row row q ≡ false

-- r is the lowest state of S at `from` or above, or the bound where there is none below it
pub record Next (S : Set) (bound from r : ℕ) : Type 0 where
  pub above : from ≤ r
  pub below : r ≤ bound
  pub none : (q : ℕ) → from ≤ q → q < r → S q ≡ false
  pub member : r < bound → S r ≡ true

-- every member of A below k is in B
unfoldable pub included_below : ℕ → Set → Set → Bool
included_below k A B = all_below k (λ q. A q ⇒ B q)

-- from the word x its lowest one is taken, at place i, and y is left; or there is none to take
abbrev pub TakesLowest : ℕ → Option ℕ → ℕ → Type 0
TakesLowest x r y = MatchOption r ((x ≡ 0) × (y ≡ 0)) (λ i. (x ≢ 0) × (i ≡ count_trailing_zeros 64 x) × (y ≡ bit_and x (x - 1)))
