-- Normal form in document 01's words ("The sheet"): records ordered by source page, then action, then target; each chain consecutive and in
-- that order; one for each kind (document 02, L2). The law `normal-form` (proofs/Laws.antt) says that `normal` writes it of every labelling
-- and system that a sheet can hold, and that there is no other.
use Rattle.std.specs.Prelude.{ℕ, suc, ◌+◌, ◌≤◌, ◌<◌, ◌≡◌, Bool, true, false, ◌&&◌, ◌||◌, List, [], length, get_or, T, ltb, eqb, Ok}
use Rattle.lts.specs.Bounded.{all_below, list_below}
use Rattle.lts.specs.System.{Lts, WellFormed}
use Rattle.encoding.specs.declared.Header.{Header}
use Rattle.encoding.specs.declared.TransitionRecord.{TransitionRecord}
use Rattle.encoding.specs.Records.{IsBytes, transition_record}
use Rattle.encoding.specs.Encoding.{reached, read_encoding}
use Rattle.encoding.specs.Denotation.{lts_of}
use Rattle.encoding.specs.Checked.{Bounds}
use Rattle.lts.specs.Places.{distinct}
use Rattle.lts.specs.Labels.{same_label}
use Rattle.encoding.specs.Labels.{Labelling, labelling_of, decimal_labels, label_fits}
use Rattle.normal_form.specs.Normal.{normal_header}

-- r comes before q: by action, then target
unfoldable pub before : TransitionRecord → TransitionRecord → Bool
before r q = ltb r.action q.action || eqb r.action q.action && ltb r.target q.target

-- record j ends its chain, or comes before the next record of its chain
unfoldable pub in_order : List ℕ → Header → ℕ → Bool
in_order s h j = let r = transition_record s h j in eqb r.next 0 || before r (transition_record s h r.next)

-- the encoding is in normal form
pub record IsNormal (s : List ℕ) (h : Header) : Type 0 where
  -- by source, each chain consecutive: the chains of the states 0, 1, .., one after the other, are the records 1, 2, .., k
  pub consecutive : reached s h h.states ≡ list_below h.transitions suc
  -- then by action, then target, along each chain
  pub ordered : all_below h.transitions (λ i. in_order s h (i + 1)) ≡ true

-- labels that a sheet of m actions can hold: one for each action; in a plain sheet the decimal digits, in a named one names, none twice
pub record Labelled (K : Labelling) (m : ℕ) : Type 0 where
  pub count : length K.labels ≡ m
  pub plain : K.named ≡ false → K.labels ≡ decimal_labels m
  pub long : (i : ℕ) → i < m → length (get_or K.labels i []) ≡ 16
  pub fit : (i : ℕ) → i < m → label_fits (get_or K.labels i []) ≡ true
  pub once : T (distinct same_label K.labels)

-- a labelling and a system that a sheet can hold: well formed, within the limits of document 01, with no end mark outside its states
pub record Encodable (K : Labelling) (L : Lts) : Type 0 where
  pub formed : WellFormed L
  pub ends : (p : ℕ) → L.states ≤ p → L.terminating p ≡ false
  pub bounds : Bounds (normal_header K.named L)
  pub labelled : Labelled K L.actions

-- t is the normal form of L with the kind and labels K
pub record NormalForm (K : Labelling) (L : Lts) (t : List ℕ) : Type 0 where
  -- it is a sequence of bytes; it is read, with the counts of L and the kind as header, has the labels, and denotes L
  pub bytes : IsBytes t
  pub reads : read_encoding t ≡ Ok (normal_header K.named L)
  pub labelling : labelling_of t ≡ K
  pub same : lts_of t ≡ L
  -- it is in normal form, and there is no other: every readable sequence of bytes in normal form with this kind, these labels and this Lts is t
  pub normal : IsNormal t (normal_header K.named L)
  pub only : (u : List ℕ) (h : Header) → IsBytes u → read_encoding u ≡ Ok h → IsNormal u h → labelling_of u ≡ K → lts_of u ≡ L → u ≡ t
