-- The normal form of a table's system, written record by record.
use Prim.Native.Nat.{ℕ, ◌+◌, ◌*◌, ◌≤◌, ◌<◌}
use mathlib.Core.Path.{◌≡◌, refl, sym, ap, ◌∙◌, subst}
use mathlib.Core.Bool.{Bool, cond}
use mathlib.Core.List.{List, ◌∷◌, ◌++◌}
use native.Mathlib.Omega.{arith}
use native.Mathlib.Nat.{zero-add, add-zero}
use native.Mathlib.Numerals.{add-one}
use lib.ListN.{length, drop, length-append}
use lib.Seq.{sets, sets-eq}
use lib.Dec.{eqb}
use Rattle.lts.specs.Bounded.{concat_below}
use Rattle.lts.specs.System.{Lts}
use Rattle.lts.specs.Transitions.{Transition, transitions, transitions_below}
use Rattle.lts.proofs.Lists.{concat-more, sets-append}
use Rattle.encoding.specs.declared.Header.{Header}
use Rattle.encoding.specs.declared.StateRecord.{StateRecord}
use Rattle.encoding.specs.declared.TransitionRecord.{TransitionRecord}
use Rattle.encoding.specs.Records.{header_bytes, state_bytes, transition_bytes, labels_length, state_at, transition_at, encoding_length}
use Rattle.encoding.specs.Checked.{Bounds}
use Rattle.transitions.specs.Table.{states_of, count_of, mark_at, offset_at, source_at, entry_at, table_lts, Formed}
use Rattle.normal_form.specs.Normal.{first_index, next_index, normal_header, normal_state, normal_transition, states_bytes, transitions_bytes, sheet_bytes}
use Rattle.normal_form.specs.Written.{Counts, transitions_from}
use Rattle.transitions.proofs.Filled.{transitions-count}
use Rattle.normal_form.proofs.Tables.{from_more, from-none}
use Rattle.encoding.proofs.Parts.{header-length}
use Rattle.normal_form.proofs.Bytes.{record-length, states-length, sheet-long, mark-small}
use Rattle.normal_form.proofs.Encodable.{table-bounds}

-- ## State records, one after the other
module _ (L : Lts) where
  pub states-none : (base : ℕ) (o : List ℕ) → o ≡ sets o base (states_bytes L 0)
  unfolding states_bytes concat_below
  states-none base o = refl

  pub states-step : (base p : ℕ) {r : StateRecord} (o₀ o o' : List ℕ) → o ≡ sets o₀ base (states_bytes L p) → r ≡ normal_state L p
      → o' ≡ sets o (base + 4 * p) (state_bytes r) → o' ≡ sets o₀ base (states_bytes L (p + 1))
  unfolding states_bytes
  states-step base p o₀ o o' q e w = w ∙ rw (q, e, concat-more, sets-append, states-length L p)

  pub states-end : (base p n : ℕ) (o₀ o : List ℕ) → o ≡ sets o₀ base (states_bytes L p) → n ≡ p → o ≡ sets o₀ (base + 4 * 0) (states_bytes L n)
  states-end base p n o₀ o q e = q ∙ rw (e, add-zero)

module _ (t : List ℕ) (ok : Formed t) where
  -- ## The header
  pub counts-header : {h : Header} {named : Bool} → Counts t h → h.named ≡ named → normal_header named (table_lts t) ≡ h
  unfolding table_lts
  counts-header c kind = λ i. record {
    states = sym c.states i;
    actions = sym c.actions i;
    transitions = (transitions-count t ok ∙ sym c.transitions) i;
    named = sym kind i;
  }

  pub counts-bounds : {h : Header} → Counts t h → Bounds h
  counts-bounds {h} c = subst Bounds (counts-header c refl) (table-bounds t ok h.named)

  -- ## The record of a state
  pub mark-byte : (p : ℕ) → p < states_of t → mark_at t p < 256
  mark-byte p l = rw (ok.mark p l) (mark-small ((table_lts t).terminating p))

  pub state-is : (p : ℕ) → p < states_of t
      → record { mark = mark_at t p; spare = 0; first = first_index (offset_at t p) (offset_at t (p + 1)) } ≡ normal_state (table_lts t) p
  unfolding normal_state
  state-is p l =
      let mark = ok.mark p l in
      let first = ok.offset p (omega arith) in
      let end = ok.offset (p + 1) (omega arith) ∙ ap (λ (q : ℕ). length (transitions_below (table_lts t) q)) (add-one p) in
      λ i. record { mark = mark i; spare = 0; first = first_index (first i) (end i) }

  -- ## The record of a transition
  -- the next index, as the code finds it
  pub next_more : (i : ℕ) → i + 1 < count_of t
      → next_index (i + 1) (entry_at t i) (transitions_from t (i + 1)) ≡ cond (eqb (source_at t (i + 1)) (source_at t i)) (i + 2) 0
  unfolding next_index
  next_more i l = let two-more : i + 1 + 1 ≡ i + 2 = omega arith in rw (from_more t ok (i + 1) l, two-more)

  pub next-none : (i : ℕ) → count_of t ≤ i + 1 → next_index (i + 1) (entry_at t i) (transitions_from t (i + 1)) ≡ 0
  unfolding next_index
  next-none i l = rw (from-none t ok (i + 1) l)

  -- ## Transition records, one after the other
  one-record : (o : List ℕ) (at j : ℕ) (x : Transition) (l : List Transition)
      → sets o at (transitions_bytes j (x ∷ l)) ≡ sets (sets o at (transition_bytes (normal_transition j x l))) (at + 6) (transitions_bytes (j + 1) l)
  unfolding transitions_bytes
  one-record o at j x l = rw (sets-append, record-length, add-one)

  pub transitions-step : (base i : ℕ) {r : TransitionRecord} (o o' : List ℕ) → i < count_of t
      → r ≡ normal_transition (i + 1) (entry_at t i) (transitions_from t (i + 1)) → o' ≡ sets o (base + 6 * i) (transition_bytes r)
      → sets o' (base + 6 * (i + 1)) (transitions_bytes (i + 1 + 1) (transitions_from t (i + 1))) ≡ sets o (base + 6 * i) (transitions_bytes (i + 1) (transitions_from t i))
  transitions-step base i o o' l e w =
      let at : base + 6 * (i + 1) ≡ base + 6 * i + 6 = omega arith in
      rw (from_more t ok i l, w, e, at) (sym (one-record o (base + 6 * i) (i + 1) (entry_at t i) (transitions_from t (i + 1))))

  pub transitions-start : (base : ℕ) (o : List ℕ)
      → sets o (base + 6 * 0) (transitions_bytes (0 + 1) (transitions_from t 0)) ≡ sets o base (transitions_bytes 1 (transitions_from t 0))
  transitions-start base o = let e : base + 6 * 0 ≡ base = omega arith in rw e

  pub transitions-end : (base i : ℕ) (o : List ℕ) → count_of t ≤ i → sets o (base + 6 * i) (transitions_bytes (i + 1) (transitions_from t i)) ≡ o
  unfolding transitions_bytes
  transitions-end base i o l = rw (from-none t ok i l)

  -- ## The whole
  -- what follows the first part of the bytes
  behind : (o front next : List ℕ) (at : ℕ) → at ≡ length front → sets (sets o 0 front) at next ≡ sets o 0 (front ++ next)
  behind o front next at e = ap (λ (i : ℕ). sets (sets o 0 front) i next) (e ∙ sym (zero-add (length front))) ∙ sym (sets-append o 0 front next)

  module _ {h : Header} {named : Bool} (c : Counts t h) (kind : h.named ≡ named) (labels : List ℕ)
      (long : length labels ≡ labels_length (normal_header named (table_lts t))) where
    abbrev header : List ℕ
    header = header_bytes h

    abbrev states : List ℕ
    states = states_bytes (table_lts t) h.states

    abbrev records : List ℕ
    records = transitions_bytes 1 (transitions (table_lts t))

    abbrev bytes : List ℕ
    bytes = sheet_bytes named labels (table_lts t)

    parts : header ++ labels ++ states ++ records ≡ bytes
    unfolding sheet_bytes table_lts
    parts = rw (counts-header c kind, c.states)

    pub whole : (o : List ℕ) → encoding_length (normal_header named (table_lts t)) ≤ length o
        → sets (sets (sets (sets o 0 header) 6 labels) (state_at h 0) states) (transition_at h 1) records ≡ bytes ++ drop (length bytes) o
    whole o room =
        let a = header-length h in
        let b = states-length (table_lts t) h.states in
        let size : length labels ≡ labels_length h = long ∙ ap labels_length (counts-header c kind) in
        let n = length-append header labels in
        let m = length-append (header ++ labels) states in
        let all = sheet-long named labels (table_lts t) long in
        let z : 0 + length bytes ≡ length bytes = zero-add (length bytes) in
        ap (λ (l : List ℕ). sets (sets l (state_at h 0) states) (transition_at h 1) records) (behind o header labels 6 (sym a))
        ∙ ap (λ (l : List ℕ). sets l (transition_at h 1) records) (behind o (header ++ labels) states (state_at h 0) (omega (arith, a, size, n)))
        ∙ behind o (header ++ labels ++ states) records (transition_at h 1) (omega (arith, a, b, size, n, m))
        ∙ ap (sets o 0) parts ∙ sets-eq bytes o 0 (omega (arith, all, room)) ∙ ap (λ (i : ℕ). bytes ++ drop i o) z
