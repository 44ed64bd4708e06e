-- The rules that make an encoding readable, and what reading it answers (document 01, "The sheet" and the table of refusals;
-- document 02, L1 and L2).
use Rattle.std.specs.Prelude.{ℕ, zero, suc, ◌+◌, ◌*◌, Bool, true, false, cond, not, ◌&&◌, ◌||◌, List, [], ◌∷◌, ◌++◌, map, length, ltb, leb, eqb, Ok, Err}
use Rattle.lts.specs.Bounded.{all_below, concat_below, list_below, lowest}
use Rattle.lts.specs.Rule.{Rule, ◌otherwise◌, checked, Answer}
use Rattle.lts.specs.declared.Refusal.TheVariants.{Length, Range, Label, StateRecord as BadState, TransitionRecord as BadTransition, Unreached, ReachedTwice, Repeated}
use Rattle.encoding.specs.declared.Header.{Header}
use Rattle.encoding.specs.declared.StateRecord.{StateRecord}
use Rattle.encoding.specs.declared.TransitionRecord.{TransitionRecord}
use Rattle.encoding.specs.Records.{header_of, encoding_length, state_record, transition_record}
use Rattle.encoding.specs.Labels.{labels_fit}

-- rule 2: n from 1 to 256, m to 64, k to 1,024
unfoldable pub in_range : Header → Bool
in_range h = leb 1 h.states && leb h.states 256 && leb h.actions 64 && leb h.transitions 1024

-- rule 3: the end mark is 0 or 1, the spare byte 0, the first index at most k
unfoldable pub state_fits : Header → StateRecord → Bool
state_fits h r = leb r.mark 1 && eqb r.spare 0 && leb r.first h.transitions

unfoldable pub states_fit : List ℕ → Header → Bool
states_fit s h = all_below h.states (λ p. state_fits h (state_record s h p))

-- rule 4: the action is 1 to m, the spare byte 0, the target below n, the next index at most k
unfoldable pub transition_fits : Header → TransitionRecord → Bool
transition_fits h r =
    leb 1 r.action && leb r.action h.actions && eqb r.spare 0 && ltb r.target h.states && leb r.next h.transitions

unfoldable pub transitions_fit : List ℕ → Header → Bool
transitions_fit s h = all_below h.transitions (λ i. transition_fits h (transition_record s h (i + 1)))

-- the numbers of the records from j on, by their next indices, at most `fuel` of them; 0 ends the chain
unfoldable pub walk : List ℕ → Header → ℕ → ℕ → List ℕ
walk s h zero j = []
walk s h (suc fuel) zero = []
walk s h (suc fuel) (suc j) = suc j ∷ walk s h fuel (transition_record s h (suc j)).next

-- the chain of state p. One that has not ended after all k records goes on for one more, which it then holds twice.
unfoldable pub chain : List ℕ → Header → ℕ → List ℕ
chain s h p = walk s h (suc h.transitions) (state_record s h p).first

-- the records of the chains of the states below n, one after the other
unfoldable pub reached : List ℕ → Header → ℕ → List ℕ
reached s h n = concat_below n (chain s h)

unfoldable pub member : ℕ → List ℕ → Bool
member x [] = false
member x (y ∷ l) = eqb x y || member x l

-- rule 5: each record is on some chain
unfoldable pub on_some_chain : List ℕ → Header → ℕ → Bool
on_some_chain s h j = member j (reached s h h.states)

unfoldable pub all_reached : List ℕ → Header → Bool
all_reached s h = all_below h.transitions (λ i. on_some_chain s h (i + 1))

-- the first and next indices, one after the other
unfoldable pub indices : List ℕ → Header → List ℕ
indices s h = list_below h.states (λ p. (state_record s h p).first) ++ list_below h.transitions (λ i. (transition_record s h (i + 1)).next)

-- how often a number stands in the list
unfoldable pub occurrences : ℕ → List ℕ → ℕ
occurrences x [] = 0
occurrences x (y ∷ l) = cond (eqb x y) 1 0 + occurrences x l

-- rule 16: no record is reached twice, that is, named by two first or next indices
unfoldable pub named_twice : List ℕ → Header → ℕ → Bool
named_twice s h j = leb 2 (occurrences j (indices s h))

unfoldable pub none_twice : List ℕ → Header → Bool
none_twice s h = all_below h.transitions (λ i. not (named_twice s h (i + 1)))

-- the number, from 1, of the lowest record that passes
abbrev pub lowest_record : Header → (ℕ → Bool) → ℕ
lowest_record h f = lowest h.transitions (λ i. f (i + 1)) + 1

-- whether no number stands twice in the list
unfoldable pub distinct : List ℕ → Bool
distinct [] = true
distinct (x ∷ l) = not (member x l) && distinct l

-- action and target of record j as one number (targets are below 256)
unfoldable pub successor : List ℕ → Header → ℕ → ℕ
successor s h j = 256 * (transition_record s h j).action + (transition_record s h j).target

-- rule 6: no chain holds the same action and target twice
unfoldable pub successors_fit : List ℕ → Header → Bool
successors_fit s h = all_below h.states (λ p. distinct (map (successor s h) (chain s h p)))

-- the rules of an encoding with the header h, down the table; those of an encoding
unfoldable pub headed_rules : List ℕ → Header → List Rule
headed_rules s h =
    leb 6 (length s) otherwise Length
    ∷ in_range h otherwise Range
    ∷ eqb (length s) (encoding_length h) otherwise Length
    ∷ labels_fit s h otherwise Label
    ∷ states_fit s h otherwise BadState
    ∷ transitions_fit s h otherwise BadTransition
    ∷ all_reached s h otherwise Unreached (lowest_record h (λ j. not (on_some_chain s h j)))
    ∷ none_twice s h otherwise ReachedTwice (lowest_record h (named_twice s h))
    ∷ successors_fit s h otherwise Repeated
    ∷ []

unfoldable pub sheet_rules : List ℕ → List Rule
sheet_rules s = headed_rules s (header_of s)

-- What reading an encoding answers: the header, or the refusal of the first rule that is broken.
unfoldable pub read_encoding : List ℕ → Answer Header
read_encoding s = checked (sheet_rules s) Err (Ok (header_of s))
