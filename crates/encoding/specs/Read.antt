-- The call read: its reply, and what is promised of it (document 01, "The sheet"; document 02, L1 and L2).
use Rattle.std.specs.Prelude.{ℕ, suc, ◌≤◌, ◌<◌, ◌≡◌, ◌⊎◌, true, List, [], ◌∷◌, length, get_or, Ok, Err}
use Rattle.lts.specs.declared.Refusal.{Refusal}
use Rattle.lts.specs.System.{WellFormed}
use Rattle.lts.specs.Labels.{Labels}
use Rattle.lts.specs.Rule.{Nothing, First, broken, Reply, refused, given, Answer}
use Rattle.encoding.specs.declared.Header.{Header}
use Rattle.encoding.specs.Records.{header_of, label_record, state_record, transition_record}
use Rattle.encoding.specs.Labels.{labels_of, IsLabel}
use Rattle.encoding.specs.Encoding.{reached, indices, occurrences, sheet_rules}
use Rattle.encoding.specs.Denotation.{lts_of}
use Rattle.lts.specs.Transitions.{transitions}
use Rattle.encoding.specs.Checked.{Bounds}

-- the header's counts n, m and k
abbrev pub counted : Header → Reply
counted h = given (h.states ∷ h.actions ∷ h.transitions ∷ [])

-- the reply of each answer
unfoldable pub reading_reply : Answer Header → Reply
reading_reply (Ok h) = counted h
reading_reply (Err r) = refused r

-- the Lts of a readable encoding is well-formed and has the header's counts, which are in range
pub record Denoted (s : List ℕ) (h : Header) : Type 0 where
  pub bounds : Bounds h
  pub formed : WellFormed (lts_of s)
  pub states : (lts_of s).states ≡ h.states
  pub actions : (lts_of s).actions ≡ h.actions
  pub transitions : length (transitions (lts_of s)) ≡ h.transitions
  -- its actions have one label each, and no two the same
  pub labels : Labels (labels_of s) (lts_of s)

-- record j is on the chain of state p: p's first index names it, or the next index of a record on the chain does
pub data OnChain (s : List ℕ) (h : Header) (p : ℕ) : ℕ → Type 0 where
  first : (j : ℕ) → 1 ≤ j → (state_record s h p).first ≡ j → OnChain s h p j
  next : (i j : ℕ) → OnChain s h p i → 1 ≤ j → (transition_record s h i).next ≡ j → OnChain s h p j

-- record j is on some chain
abbrev pub OnSomeChain : List ℕ → Header → ℕ → Type 0
OnSomeChain s h j = (p : ℕ) × (p < h.states) × OnChain s h p j

-- j stands at two places of the list
pub record Twice (j : ℕ) (l : List ℕ) : Type 0 where
  pub one : ℕ
  pub other : ℕ
  pub apart : one < other
  pub inside : other < length l
  pub first : get_or l one 0 ≡ j
  pub second : get_or l other 0 ≡ j

-- record j is reached twice: two of the first and next indices name it
abbrev pub NamedTwice : List ℕ → Header → ℕ → Type 0
NamedTwice s h j = Twice j (indices s h)

-- j is the number of a record with the fault, and each lower one is sound
pub record Lowest (h : Header) (Fault Sound : ℕ → Type 0) (j : ℕ) : Type 0 where
  pub low : 1 ≤ j
  pub high : j ≤ h.transitions
  pub fault : Fault j
  pub sound : (i : ℕ) → 1 ≤ i → i < j → Sound i

-- the name of action i + 1 is a bad one, or that of action j + 1 too
pub data Misnamed (s : List ℕ) (h : Header) : Type 0 where
  bad : (i : ℕ) → i < h.actions → (IsLabel (label_record s h (suc i)).bytes → ⊥) → Misnamed s h
  repeated : (i j : ℕ) → i < j → j < h.actions → (label_record s h (suc i)).bytes ≡ (label_record s h (suc j)).bytes → Misnamed s h

-- each name is a good one, and no two are the same
pub record WellNamed (s : List ℕ) (h : Header) : Type 0 where
  pub each : (i : ℕ) → i < h.actions → IsLabel (label_record s h (suc i)).bytes
  pub once : (i j : ℕ) → i < h.actions → j < h.actions → (label_record s h (suc i)).bytes ≡ (label_record s h (suc j)).bytes → i ≡ j

-- What is promised of the reply.
pub record ReadPromise (s : List ℕ) (reply : Reply) : Type 0 where
  -- the refusal of the first broken rule
  pub refuses : (r : Refusal) → broken (sheet_rules s) ≡ First r → reply ≡ refused r
  -- with 17 the sheet is a named one, and a name is a bad one or stands twice
  pub misnamed : reply.refusal ≡ 17 → ((header_of s).named ≡ true) × Misnamed s (header_of s)
  -- with every other answer but 1 and 2, a named sheet's names are good and none stands twice
  pub named : (reply.refusal ≡ 1 → ⊥) → (reply.refusal ≡ 2 → ⊥) → (reply.refusal ≡ 17 → ⊥) → (header_of s).named ≡ true → WellNamed s (header_of s)
  -- with 5 the record is on no chain, and each lower one is on some chain
  pub unreached : reply.refusal ≡ 5
      → Lowest (header_of s) (λ j. OnSomeChain s (header_of s) j → ⊥) (OnSomeChain s (header_of s)) reply.record_number
  -- with 16 every record is on some chain, two indices name this one, and none lower is so named
  pub twice : reply.refusal ≡ 16
      → Lowest (header_of s) (NamedTwice s (header_of s)) (λ j. NamedTwice s (header_of s) j → ⊥) reply.record_number
      × ((j : ℕ) → 1 ≤ j → j ≤ (header_of s).transitions → OnSomeChain s (header_of s) j)
  -- every other answer has record number 0
  pub others : (reply.refusal ≡ 5 → ⊥) → (reply.refusal ≡ 16 → ⊥) → reply.record_number ≡ 0
  -- with 6, and with no refusal, each record lies on exactly one chain, once
  pub once : (reply.refusal ≡ 6) ⊎ (reply.refusal ≡ 0) → (j : ℕ) → 1 ≤ j → j ≤ (header_of s).transitions
      → occurrences j (reached s (header_of s) (header_of s).states) ≡ 1
  -- with no refusal the header's counts, which are those of the flow
  pub answers : broken (sheet_rules s) ≡ Nothing → (reply ≡ counted (header_of s)) × Denoted s (header_of s)
