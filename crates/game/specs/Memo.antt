-- What the turns of hand play share: the results already known, in cells.
use Rattle.std.specs.Prelude.{ℕ, ◌+◌, ◌*◌, ◌-◌, ◌<◌, ◌≤◌, ◌≡◌, Bool, true, false, List, length, get_or}
use Rattle.lts.specs.System.{Rel}
use Rattle.lts.specs.Game.{challenger_wins}
use Rattle.transitions.specs.Table.{states_of, table_lts, Formed}
use Rattle.game.specs.declared.Known.{Known}
use Rattle.game.specs.declared.Known.TheVariants.{Open, Lost, Won}
use Rattle.relation.specs.Matrix.{Matrix, relation_of}

-- the challenger wins from a pair, by the number of rounds left
abbrev pub wins : List ℕ → List ℕ → ℕ → Rel
wins t start = challenger_wins (table_lts t) (relation_of (states_of t) start)

-- a transition table, and the matrix of a start on its states
pub record Playable (t start : List ℕ) : Type 0 where
  pub table : Formed t
  pub matrix : Matrix (states_of t) start

-- what a cell says of a result: `Lost` that it is no win, `Won` that it is one, `Open` nothing
pub record Says (cell : Known) (result : Bool) : Type 0 where
  pub missed : cell ≡ Lost → result ≡ false
  pub won : cell ≡ Won → result ≡ true

-- the place of the cell for a pair and a number of rounds from 1 to 6 (with 0 rounds nothing is looked up)
abbrev pub cell_of : ℕ → ℕ → ℕ → ℕ → ℕ
cell_of n rounds p q = ((rounds - 1) * n + p) * n + q

-- every cell is right
pub record Right (t start : List ℕ) (memo : List Known) : Type 0 where
  pub size : length memo ≡ 6 * states_of t * states_of t
  pub cells : (rounds p q : ℕ) → 0 < rounds → rounds ≤ 6 → p < states_of t → q < states_of t
      → Says (get_or memo (cell_of (states_of t) rounds p q) Open) (wins t start rounds p q)
