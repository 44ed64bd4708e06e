-- What the functions that load a sheet under maps say of each other.
use Rattle.std.specs.Prelude.{ℕ, ◌+◌, ◌*◌, ◌≤◌, ◌<◌, ◌≡◌, Bool, ◌&&◌, List, map, eqb, length}
use Rattle.lts.specs.Bounded.{any_below}
use Rattle.lts.specs.System.{Set, Lts}
use Rattle.lts.specs.Transitions.{transitions_below}
use Rattle.lts.specs.Mapped.{mapped, Sends}
use Rattle.encoding.specs.declared.Header.{Header}
use Rattle.encoding.specs.Records.{state_record, transition_record}
use Rattle.encoding.specs.Encoding.{chain, member}
use Rattle.encoding.specs.Checked.{ReadableAs}
use Rattle.encoding.specs.Denotation.{lts_of}
use Rattle.transitions.specs.Table.{offset_at}
use Rattle.transitions.specs.Maps.{state_to, action_to}
use Rattle.transitions.specs.Filling.{Filling}

-- where record j goes, action and target as one number
unfoldable pub record_to : List ℕ → List ℕ → Header → ℕ → ℕ
record_to maps s h j = 256 * action_to maps (transition_record s h j).action + state_to maps (transition_record s h j).target

-- where the actions and targets of state p's chain go; those of all states that go to state i; whether one of these has the end mark
unfoldable pub chain_image : List ℕ → List ℕ → Header → ℕ → Set
chain_image maps s h p x = member x (map (record_to maps s h) (chain s h p))

unfoldable pub row_image : List ℕ → List ℕ → Header → ℕ → Set
row_image maps s h i x = any_below h.states (λ p. eqb (state_to maps p) i && chain_image maps s h p x)

unfoldable pub mark_image : List ℕ → List ℕ → Header → ℕ → Bool
mark_image maps s h i = any_below h.states (λ p. eqb (state_to maps p) i && eqb (state_record s h p).mark 1)

-- state i of L is that of the sheet s under the maps
pub record Image (L : Lts) (s maps : List ℕ) (i : ℕ) : Type 0 where
  pub below : i < L.states
  pub mark : L.terminating i ≡ (mapped L.states L.actions (state_to maps) (action_to maps) (lts_of s)).terminating i
  pub step : (a t : ℕ) → L.transition i a t ≡ (mapped L.states L.actions (state_to maps) (action_to maps) (lts_of s)).transition i a t

-- so are the states from `low` up to `high`
abbrev pub Images : Lts → List ℕ → List ℕ → ℕ → ℕ → Type 0
Images L s maps low high = (i : ℕ) → low ≤ i → i < high → Image L s maps i

-- the states of L below i are in the table; m is the number of L's actions, and the maps take the sheet s to states and actions of L
pub record Loading (L : Lts) (s : List ℕ) (h : Header) (maps : List ℕ) (m i : ℕ) (t : List ℕ) : Type 0 where
  pub readable : ReadableAs s h
  pub sends : Sends L.states L.actions (state_to maps) (action_to maps) (lts_of s)
  pub few : L.states ≤ 256
  pub labels : m ≤ 64
  pub last : m ≡ L.actions
  pub size : length (transitions_below L L.states) ≤ 1024
  pub filling : Filling L i (offset_at t i) t
