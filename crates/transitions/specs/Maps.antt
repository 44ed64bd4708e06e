-- Maps of states and actions: one list of 321 numbers, in which state p goes to number p and action a to number 256 + a.
use Rattle.std.specs.Prelude.{ℕ, ◌+◌, ◌≤◌, ◌<◌, ◌≡◌, ◌&&◌, List, eqb, ltb, length, get_or}
use Rattle.lts.specs.System.{Set}
use Rattle.encoding.specs.declared.Header.{Header}
use Rattle.rows.specs.Rows.{Next}

abbrev pub state_to : List ℕ → ℕ → ℕ
state_to maps p = get_or maps p 0

abbrev pub action_to : List ℕ → ℕ → ℕ
action_to maps a = get_or maps (256 + a) 0

-- n states go to those from `shift` on, and the actions 1 to m go where `to` says
pub record Raises (n m shift : ℕ) (to maps : List ℕ) : Type 0 where
  pub long : length maps ≡ 321
  pub state : (p : ℕ) → p < n → state_to maps p ≡ shift + p
  pub action : (a : ℕ) → 1 ≤ a → a ≤ m → action_to maps a ≡ get_or to a 0

-- the states and actions of a sheet with the header h go to states below 256 and to actions from 1 to 64
pub record Within (h : Header) (maps : List ℕ) : Type 0 where
  pub state : (p : ℕ) → p < h.states → state_to maps p < 256
  pub action : (a : ℕ) → 1 ≤ a → a ≤ h.actions → action_to maps a ≤ 64
  pub named : (a : ℕ) → 1 ≤ a → a ≤ h.actions → 1 ≤ action_to maps a

-- the states below n that go to state i
unfoldable pub goes_to : ℕ → List ℕ → ℕ → Set
goes_to n maps i p = ltb p n && eqb (state_to maps p) i

-- in a list of 512 numbers: the first state that goes to state i, and the next after p that goes where p goes; 256 where there is none
abbrev pub first_to : List ℕ → ℕ → ℕ
first_to links i = get_or links i 0

abbrev pub next_to : List ℕ → ℕ → ℕ
next_to links p = get_or links (256 + p) 0

-- the list has the first and the next of the states below n
pub record Linked (n : ℕ) (maps links : List ℕ) : Type 0 where
  pub first : (i : ℕ) → i < 256 → Next (goes_to n maps i) 256 0 (first_to links i)
  pub next : (p : ℕ) → p < n → Next (goes_to n maps (state_to maps p)) 256 (p + 1) (next_to links p)
