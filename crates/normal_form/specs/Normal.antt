-- The normal form as a function of the labelling and the Lts: what `normalise` writes. That it is in normal form (specs/NormalForm.antt), and
-- the only such encoding of both, is the law `normal-form` (proofs/Laws.antt).
use Rattle.std.specs.Prelude.{ℕ, suc, ◌+◌, Bool, cond, List, [], ◌∷◌, ◌++◌, length, eqb}
use Rattle.lts.specs.Bounded.{concat_below}
use Rattle.lts.specs.System.{Lts}
use Rattle.lts.specs.Transitions.{Transition, transitions_below, transitions}
use Rattle.encoding.specs.declared.Header.{Header}
use Rattle.encoding.specs.declared.StateRecord.{StateRecord}
use Rattle.encoding.specs.declared.TransitionRecord.{TransitionRecord}
use Rattle.encoding.specs.Records.{header_bytes, state_bytes, transition_bytes}
use Rattle.encoding.specs.Labels.{Labelling, records_of}

-- the first index of a state whose transitions stand after the first i and up to the first j of all; 0 where it has none
unfoldable pub first_index : ℕ → ℕ → ℕ
first_index i j = cond (eqb i j) 0 (i + 1)

-- the next index of transition number i, x, before the transitions l: the following one, if it leaves the same state
unfoldable pub next_index : ℕ → Transition → List Transition → ℕ
next_index i x [] = 0
next_index i x (y ∷ l) = cond (eqb y.source x.source) (i + 1) 0

-- the header and the records of the normal form
abbrev pub normal_header : Bool → Lts → Header
normal_header named L = record { states = L.states; actions = L.actions; transitions = length (transitions L); named = named }

unfoldable pub normal_state : Lts → ℕ → StateRecord
normal_state L p = record {
  mark = cond (L.terminating p) 1 0;
  spare = 0;
  first = first_index (length (transitions_below L p)) (length (transitions_below L (suc p)));
}

unfoldable pub normal_transition : ℕ → Transition → List Transition → TransitionRecord
normal_transition i x l = record { action = x.action; spare = 0; target = x.target; next = next_index i x l }

-- the records of the states below n; the records of the transitions l, of which the first has number i
unfoldable pub states_bytes : Lts → ℕ → List ℕ
states_bytes L n = concat_below n (λ p. state_bytes (normal_state L p))

unfoldable pub transitions_bytes : ℕ → List Transition → List ℕ
transitions_bytes i [] = []
transitions_bytes i (x ∷ l) = transition_bytes (normal_transition i x l) ++ transitions_bytes (suc i) l

-- a sheet of the Lts, with the bytes of its labels between header and records
unfoldable pub sheet_bytes : Bool → List ℕ → Lts → List ℕ
sheet_bytes named labels L = header_bytes (normal_header named L) ++ labels ++ states_bytes L L.states ++ transitions_bytes 1 (transitions L)

unfoldable pub normal : Labelling → Lts → List ℕ
normal K L = sheet_bytes K.named (records_of K) L
