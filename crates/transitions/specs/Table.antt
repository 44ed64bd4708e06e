-- The transition table of a system, in one list of 3,588 numbers: the counts of states, actions and transitions; the end marks of 256
-- states; the number of the first transition of 257; the sources, the actions and the targets of 1,024 transitions. The crates above work
-- on tables and on no sheet.
use Rattle.std.specs.Prelude.{ℕ, ◌+◌, ◌*◌, ◌≤◌, ◌<◌, ◌≡◌, Bool, cond, ◌&&◌, List, [], ◌∷◌, eqb, ltb, length, get_or}
use Rattle.lts.specs.Bounded.{any_below, concat_below}
use Rattle.lts.specs.System.{Set, Lts}
use Rattle.lts.specs.Transitions.{Transition, transitions, transitions_below}

-- how many states, actions and transitions
abbrev pub states_of : List ℕ → ℕ
states_of t = get_or t 0 0

abbrev pub actions_of : List ℕ → ℕ
actions_of t = get_or t 1 0

abbrev pub count_of : List ℕ → ℕ
count_of t = get_or t 2 0

-- the end mark of state p, and the number of its first transition, which is the end of the row before
abbrev pub mark_at : List ℕ → ℕ → ℕ
mark_at t p = get_or t (3 + p) 0

abbrev pub offset_at : List ℕ → ℕ → ℕ
offset_at t p = get_or t (259 + p) 0

-- transition number i
abbrev pub source_at : List ℕ → ℕ → ℕ
source_at t i = get_or t (516 + i) 0

abbrev pub action_at : List ℕ → ℕ → ℕ
action_at t i = get_or t (1540 + i) 0

abbrev pub target_at : List ℕ → ℕ → ℕ
target_at t i = get_or t (2564 + i) 0

abbrev pub entry_at : List ℕ → ℕ → Transition
entry_at t i = record { source = source_at t i; action = action_at t i; target = target_at t i }

-- the first k transitions
unfoldable pub table_transitions : List ℕ → ℕ → List Transition
table_transitions t k = concat_below k (λ i. entry_at t i ∷ [])

-- number i is the transition p, a, q
unfoldable pub is_entry : List ℕ → ℕ → ℕ → ℕ → ℕ → Bool
is_entry t p a q i = eqb (source_at t i) p && eqb (action_at t i) a && eqb (target_at t i) q

-- the system of a table
unfoldable pub table_lts : List ℕ → Lts
table_lts t = record {
  states = states_of t;
  actions = actions_of t;
  terminating = λ p. ltb p (states_of t) && eqb (mark_at t p) 1;
  transition = λ p a q. any_below (count_of t) (is_entry t p a q);
}

-- number i is by action a into the set X
unfoldable pub enters : List ℕ → ℕ → Set → ℕ → Bool
enters t a X i = eqb (action_at t i) a && X (target_at t i)

-- the place of transition number i in normal order, as one number: by source, then action, then target
abbrev pub rank : List ℕ → ℕ → ℕ
rank t i = 65536 * source_at t i + (256 * action_at t i + target_at t i)

-- A table within the limits of document 01, its numbers in range, its rows where the offsets say, in normal order.
pub record Formed (t : List ℕ) : Type 0 where
  pub some : 1 ≤ states_of t
  pub states : states_of t ≤ 256
  pub labels : actions_of t ≤ 64
  pub size : count_of t ≤ 1024
  pub source : (i : ℕ) → i < count_of t → source_at t i < states_of t
  pub named : (i : ℕ) → i < count_of t → 1 ≤ action_at t i
  pub action : (i : ℕ) → i < count_of t → action_at t i ≤ actions_of t
  pub target : (i : ℕ) → i < count_of t → target_at t i < states_of t
  -- the transitions that leave state p are those from number offset_at t p on and below number offset_at t (p + 1)
  pub rising : (p : ℕ) → p < states_of t → offset_at t p ≤ offset_at t (p + 1)
  pub end : offset_at t (states_of t) ≡ count_of t
  pub leaves : (p i : ℕ) → p < states_of t → offset_at t p ≤ i → i < offset_at t (p + 1) → source_at t i ≡ p
  pub row : (i : ℕ) → i < count_of t → (offset_at t (source_at t i) ≤ i) × (i < offset_at t (source_at t i + 1))
  -- normal order
  pub order : table_transitions t (count_of t) ≡ transitions (table_lts t)
  pub before : (i j : ℕ) → i < j → j < count_of t → rank t i < rank t j
  -- each mark is 0 or 1, and each offset counts the transitions of the states before
  pub mark : (p : ℕ) → p < states_of t → mark_at t p ≡ cond ((table_lts t).terminating p) 1 0
  pub offset : (p : ℕ) → p ≤ states_of t → offset_at t p ≡ length (transitions_below (table_lts t) p)

-- the table holds the system L
pub record Holds (L : Lts) (t : List ℕ) : Type 0 where
  pub formed : Formed t
  pub same : table_lts t ≡ L
