-- The records of an encoding (document 01, "The sheet"; document 02, L2): how each is read from bytes and written as bytes, and where each
-- stands. A label record is a name, a state record a page record, a transition record a move record. No other definition knows a place in an
-- encoding.
use Rattle.std.specs.Prelude.{ℕ, ◌+◌, ◌*◌, ◌-◌, ◌<◌, ◌/◌, ◌%◌, Bool, cond, List, [], ◌∷◌, ◌++◌, leb, length, get_or, take, drop}
use Rattle.lts.specs.Bounded.{list_below}
use Rattle.encoding.specs.declared.Header.{Header}
use Rattle.encoding.specs.declared.LabelRecord.{LabelRecord}
use Rattle.encoding.specs.declared.StateRecord.{StateRecord}
use Rattle.encoding.specs.declared.TransitionRecord.{TransitionRecord}

-- each number is below 256 (those of a slice of bytes are)
abbrev pub IsBytes : List ℕ → Type 0
IsBytes s = (i : ℕ) → i < length s → get_or s i 0 < 256

-- a 16-bit number, low byte first: read at i, and written
unfoldable pub number_at : List ℕ → ℕ → ℕ
number_at s i = get_or s i 0 + 256 * get_or s (i + 1) 0

unfoldable pub two : ℕ → List ℕ
two x = x % 256 ∷ x / 256 % 256 ∷ []

-- the header: the counts n, m and k, and the kind; a named sheet has 32,768 added to its first number
unfoldable pub header_of : List ℕ → Header
header_of s = record { states = number_at s 0 % 32768; actions = number_at s 2; transitions = number_at s 4; named = leb 32768 (number_at s 0) }

unfoldable pub header_bytes : Header → List ℕ
header_bytes h = two (h.states + cond h.named 32768 0) ++ two h.actions ++ two h.transitions

-- the same counts in the wanted kind (document 02, L3)
abbrev pub of_kind : Bool → Header → Header
of_kind named h = record { states = h.states; actions = h.actions; transitions = h.transitions; named = named }

-- a label record: 16 bytes
unfoldable pub label_record_at : List ℕ → ℕ → LabelRecord
label_record_at s i = record { bytes = list_below 16 (λ d. get_or s (i + d) 0) }

abbrev pub label_bytes : LabelRecord → List ℕ
label_bytes r = r.bytes

-- a state record: end mark, a spare byte, first index
unfoldable pub state_record_at : List ℕ → ℕ → StateRecord
state_record_at s i = record { mark = get_or s i 0; spare = get_or s (i + 1) 0; first = number_at s (i + 2) }

unfoldable pub state_bytes : StateRecord → List ℕ
state_bytes r = r.mark ∷ r.spare ∷ two r.first

-- a transition record: action, a spare byte, target, next index
unfoldable pub transition_record_at : List ℕ → ℕ → TransitionRecord
transition_record_at s i =
    record { action = get_or s i 0; spare = get_or s (i + 1) 0; target = number_at s (i + 2); next = number_at s (i + 4) }

unfoldable pub transition_bytes : TransitionRecord → List ℕ
transition_bytes r = (r.action ∷ r.spare ∷ two r.target) ++ two r.next

-- the length of all label records: a named sheet has one for each action, a plain sheet none
unfoldable pub labels_length : Header → ℕ
labels_length h = cond h.named (16 * h.actions) 0

-- where the label record of action a (from 1) starts, where the record of state p starts, where transition record j (from 1) starts, and the
-- length of the whole encoding
abbrev pub label_at : Header → ℕ → ℕ
label_at h a = 6 + 16 * (a - 1)

abbrev pub state_at : Header → ℕ → ℕ
state_at h p = 6 + labels_length h + 4 * p

abbrev pub transition_at : Header → ℕ → ℕ
transition_at h j = 6 + labels_length h + 4 * h.states + 6 * (j - 1)

abbrev pub encoding_length : Header → ℕ
encoding_length h = 6 + labels_length h + 4 * h.states + 6 * h.transitions

-- the bytes of all label records
unfoldable pub label_records : List ℕ → Header → List ℕ
label_records s h = take (labels_length h) (drop 6 s)

-- the bytes of all state and transition records: the rest of the encoding
unfoldable pub system_records : List ℕ → Header → List ℕ
system_records s h = drop (state_at h 0) s

-- the label record of action a, the record of state p, and transition record j
unfoldable pub label_record : List ℕ → Header → ℕ → LabelRecord
label_record s h a = label_record_at s (label_at h a)

unfoldable pub state_record : List ℕ → Header → ℕ → StateRecord
state_record s h p = state_record_at s (state_at h p)

unfoldable pub transition_record : List ℕ → Header → ℕ → TransitionRecord
transition_record s h j = transition_record_at s (transition_at h j)
