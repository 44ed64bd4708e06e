-- Relations as bit matrices of rows of words (document 01, "Grids").
use Rattle.std.specs.Prelude.{◌≡◌, false, cond, List, ℕ, ◌+◌, ◌*◌, ◌/◌, ◌%◌, ◌<◌, ◌≤◌, eqb, ltb, length, get_or}
use Rattle.lts.specs.Bounded.{sum_below, count_below, list_below}
use Rattle.lts.specs.System.{Set, Rel}
use Rattle.rows.specs.Rows.{bit, word_at, row_words, states_below}

-- the relation that a matrix with rows of w words holds
unfoldable pub in_matrix : ℕ → List ℕ → Rel
in_matrix w g p q = bit (get_or g (p * w + q / 64) 0) (q % 64)

abbrev pub relation_of : ℕ → List ℕ → Rel
relation_of n g = in_matrix (row_words n) g

-- word j of the matrix of R: word j mod w of row j / w
abbrev pub matrix_word : ℕ → Rel → ℕ → ℕ
matrix_word n R j = word_at (states_below n (R (j / row_words n))) (j % row_words n)

-- the matrix (grid) of the relation R on n states
unfoldable pub matrix_of : ℕ → Rel → List ℕ
matrix_of n R = list_below (n * row_words n) (matrix_word n R)

-- the list is a matrix on n states: n rows of w words, and no bit at q ≥ n
pub record Matrix (n : ℕ) (g : List ℕ) : Type 0 where
  pub long : length g ≡ n * row_words n
  pub clear : (p q : ℕ) → p < n → n ≤ q → q < row_words n * 64 → relation_of n g p q ≡ false

-- how many pairs of states R has
unfoldable pub pair_count : ℕ → Rel → ℕ
pair_count n R = sum_below n (λ p. count_below n (R p))

-- R with the set S for its row p
abbrev pub set_row : ℕ → Set → Rel → Rel
set_row p S R t q = cond (eqb t p) (S q) (R t q)

-- R with the rows of N in place of its first p rows
abbrev pub rows_of : ℕ → Rel → Rel → Rel
rows_of p N R t q = cond (ltb t p) (N t q) (R t q)
