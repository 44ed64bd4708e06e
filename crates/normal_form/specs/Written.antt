-- What the functions that write the normal form of a table say of each other.
use Rattle.std.specs.Prelude.{ℕ, ◌≡◌, List, drop}
use Rattle.lts.specs.Transitions.{Transition, transitions}
use Rattle.encoding.specs.declared.Header.{Header}
use Rattle.transitions.specs.Table.{states_of, actions_of, count_of, table_lts}

-- h has the counts of the table
pub record Counts (t : List ℕ) (h : Header) : Type 0 where
  pub states : h.states ≡ states_of t
  pub actions : h.actions ≡ actions_of t
  pub transitions : h.transitions ≡ count_of t

-- the transitions of the table's system from number i on, in normal order
abbrev pub transitions_from : List ℕ → ℕ → List Transition
transitions_from t i = drop i (transitions (table_lts t))
