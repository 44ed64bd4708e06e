-- What the functions of the test of transitivity say of each other.
use Rattle.std.specs.Prelude.{◌≡◌, true, false, List, ℕ, ◌<◌, ◌≤◌, length}
use Rattle.lts.specs.System.{Rel}
use Rattle.rows.specs.Rows.{in_row, row_words}
use Rattle.relation.specs.Check.{transitive_pair}

-- what is still to be tested of p: `left` has members of row p, and each state that it does not have passes
pub record Left (n : ℕ) (R : Rel) (p : ℕ) (left : List ℕ) : Type 0 where
  pub long : row_words n ≤ length left
  pub members : (q : ℕ) → q < n → in_row left q ≡ true → R p q ≡ true
  pub passed : (q : ℕ) → q < n → in_row left q ≡ false → transitive_pair n R p q ≡ true
