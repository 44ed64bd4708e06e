-- What is known of an encoding after each of the reader's checks. `ReadableAs` is what the loader asks of its callers; it follows from the
-- reader's answer by the law `readable_of` (proofs/Reader.antt).
use Rattle.std.specs.Prelude.{ℕ, ◌≤◌, ◌<◌, ◌≡◌, Bool, true, ◌&&◌, List, length}
use Rattle.encoding.specs.declared.Header.{Header}
use Rattle.encoding.specs.declared.TransitionRecord.{TransitionRecord}
use Rattle.encoding.specs.Records.{header_of, encoding_length, state_record, transition_record}
use Rattle.encoding.specs.Labels.{labels_fit}
use Rattle.encoding.specs.Encoding.{states_fit, transitions_fit, reached, all_reached, distinct, successors_fit}

-- rule 2 holds
pub record Bounds (h : Header) : Type 0 where
  pub state : 1 ≤ h.states
  pub states : h.states ≤ 256
  pub actions : h.actions ≤ 64
  pub transitions : h.transitions ≤ 1024

-- rules 1 and 2 hold: the counts are in range, and the length is the one they say
pub record Sized (s : List ℕ) (h : Header) : Type 0 where
  pub bounds : Bounds h
  pub long : length s ≡ encoding_length h

-- rules 1 to 4 hold
pub record Recorded (s : List ℕ) (h : Header) : Type 0 where
  pub sized : Sized s h
  pub states : states_fit s h ≡ true
  pub transitions : transitions_fit s h ≡ true

-- j is the first index of state p, and keeps rule 3
pub record FirstKnown (s : List ℕ) (h : Header) (p j : ℕ) : Type 0 where
  pub is : j ≡ (state_record s h p).first
  pub bound : j ≤ h.transitions

-- r is transition record j, and keeps rule 4
pub record TransitionKnown (s : List ℕ) (h : Header) (j : ℕ) (r : TransitionRecord) : Type 0 where
  pub is : r ≡ transition_record s h j
  pub named : 1 ≤ r.action
  pub action : r.action ≤ h.actions
  pub target : r.target < h.states
  pub next : r.next ≤ h.transitions

-- rules 5 and 16 together: the chains hold no record twice, and hold each record
unfoldable pub chains_fit : List ℕ → Header → Bool
chains_fit s h = distinct (reached s h h.states) && all_reached s h

-- the encoding is readable, and h is its header
pub record ReadableAs (s : List ℕ) (h : Header) : Type 0 where
  pub recorded : Recorded s h
  pub header : h ≡ header_of s
  pub labels : labels_fit s h ≡ true
  pub chains : chains_fit s h ≡ true
  pub successors : successors_fit s h ≡ true
