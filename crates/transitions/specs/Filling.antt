-- What the functions that fill a table say of each other.
use Rattle.std.specs.Prelude.{ℕ, suc, ◌+◌, ◌-◌, ◌*◌, ◌/◌, ◌≤◌, ◌<◌, ◌≡◌, Bool, false, cond, List, ◌++◌, length, get_or, set}
use Rattle.lts.specs.Bounded.{passing, concat_below}
use Rattle.lts.specs.System.{Set, Lts}
use Rattle.lts.specs.Transitions.{Transition, transitions_to, transitions_below}
use Rattle.rows.specs.Rows.{bit, in_row}
use Rattle.transitions.specs.Table.{table_transitions, mark_at, offset_at}

-- in a row that holds a set of 256 states for each action from 0 to 64: the set of action a
abbrev pub action_set : List ℕ → ℕ → ℕ → Bool
action_set sets a q = in_row sets (256 * a + q)

-- the transitions of state p by the actions 1 to m whose targets such a row holds
unfoldable pub row_transitions : List ℕ → ℕ → ℕ → List Transition
row_transitions sets p m = concat_below m (λ a. transitions_to p (suc a) (passing 256 (action_set sets (suc a))))

-- such a row's members S are all by actions of a mask, which has bit a - 1 for action a
pub record Covers (used : ℕ) (S : Set) : Type 0 where
  pub none : (x : ℕ) → x < 16640 → (256 ≤ x → bit used (x / 256 - 1) ≡ false) → S x ≡ false

-- t with p, a, q for its transition number i; with a state's mark, and the end of its row; with its counts
abbrev pub with_transition : List ℕ → ℕ → ℕ → ℕ → ℕ → List ℕ
with_transition t i p a q = set (set (set t (516 + i) p) (1540 + i) a) (2564 + i) q

abbrev pub with_state : List ℕ → ℕ → ℕ → ℕ → List ℕ
with_state t p mark end = set (set t (3 + p) mark) (259 + (p + 1)) end

abbrev pub with_counts : List ℕ → ℕ → ℕ → ℕ → List ℕ
with_counts t n m k = set (set (set t 0 n) 1 m) 2 k

-- t is t₀ with the transitions vs from number i on; the counts, marks and offsets are as they were
pub record Extends (vs : List Transition) (i : ℕ) (t₀ t : List ℕ) : Type 0 where
  pub long : length t ≡ length t₀
  pub list : table_transitions t (i + length vs) ≡ table_transitions t₀ i ++ vs
  pub head : (j : ℕ) → j < 516 → get_or t j 0 ≡ get_or t₀ j 0

-- the marks, rows and transitions of the first p states of L are in the table, in `at` transitions
pub record Filling (L : Lts) (p at : ℕ) (t : List ℕ) : Type 0 where
  pub long : length t ≡ 3588
  pub place : at ≡ length (transitions_below L p)
  pub list : table_transitions t at ≡ transitions_below L p
  pub mark : (q : ℕ) → q < p → mark_at t q ≡ cond (L.terminating q) 1 0
  pub offset : (q : ℕ) → q ≤ p → offset_at t q ≡ length (transitions_below L q)
