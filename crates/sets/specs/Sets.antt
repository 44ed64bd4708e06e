-- Lists of sets of 256 states, four words a set.
use Rattle.std.specs.Prelude.{ℕ, ◌+◌, ◌*◌, ◌/◌, ◌%◌, false, cond, List, eqb}
use Rattle.lts.specs.System.{Set, Rel}
use Rattle.rows.specs.Rows.{bit, in_row, row_of}

-- the members of set p of a list
abbrev pub set_at : List ℕ → Rel
set_at sets p q = in_row sets (256 * p + q)

-- the list of the sets R 0 .. R (k - 1)
unfoldable pub sets_of : ℕ → Rel → List ℕ
sets_of k R = row_of (k * 4) (λ x. R (x / 256) (x % 256))

-- R with f g of its row in the place of the row, for each g of W
unfoldable pub updated : Set → (ℕ → Set → Set) → Rel → Rel
updated W f R g h = cond (W g) (f g (R g) h) (R g h)

-- the states of word c that a word holds
unfoldable pub window : ℕ → ℕ → Set
window c word q = cond (eqb (q / 64) c) (bit word (q % 64)) false
