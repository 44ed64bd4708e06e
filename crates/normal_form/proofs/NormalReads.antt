-- The header and the records of a normal form are read back as they were written.
use Prim.Native.Nat.{ℕ, zero, suc, ◌+◌, ◌*◌, ◌-◌, ◌≤◌, ◌<◌}
use mathlib.Core.Path.{◌≡◌, refl, ◌∙◌}
use mathlib.Core.Bool.{Bool, true, false, cond}
use mathlib.Core.List.{List, [], ◌∷◌, ◌++◌, append_assoc}
use native.Mathlib.Omega.{arith}
use native.Mathlib.Nat.{not-suc-le-zero, zero-add, add-zero}
use native.Mathlib.Numerals.{one-add}
use lib.ListN.{length, get_or, drop, length-append, get_or-append}
use lib.Seq.{get_or-append-add}
use lib.Dec.{eqb}
use Rattle.lts.specs.Bounded.{concat_below}
use Rattle.encoding.specs.declared.Header.{Header}
use Rattle.encoding.specs.declared.StateRecord.{StateRecord}
use Rattle.encoding.specs.declared.TransitionRecord.{TransitionRecord}
use Rattle.encoding.specs.Records.{number_at, two, header_of, header_bytes, state_record_at, state_bytes, transition_record_at, transition_bytes, labels_length, state_record, transition_record}
use Rattle.encoding.specs.Labels.{Labelling, records_of}
use Rattle.lts.specs.System.{Lts}
use Rattle.lts.specs.Transitions.{Transition, transitions_below, transitions}
use Rattle.normal_form.specs.Normal.{first_index, next_index, normal_header, normal_state, normal_transition, states_bytes, transitions_bytes, sheet_bytes, normal}
use Rattle.normal_form.specs.NormalForm.{Encodable}
use Rattle.lts.proofs.Lists.{concat-at}
use Rattle.lts.proofs.Transitions.{nth, every-nth, Sourced, all_keep, up-grows}
use Rattle.encoding.proofs.Parts.{back, header-back, header-length}
use Rattle.normal_form.proofs.Bytes.{record-length, states-length}
use Rattle.normal_form.proofs.Labelled.{records-length}

-- ## What is written is read back
state-back : (s : List ℕ) (i : ℕ) (r : StateRecord) → r.first < 65536 → ((j : ℕ) → j < 4 → get_or s (i + j) 0 ≡ get_or (state_bytes r) j 0) → state_record_at s i ≡ r
unfolding state_record_at number_at state_bytes two
state-back s i r l e =
    let e₀ = rw add-zero at (e 0 (omega arith)) in
    let a₃ : i + 2 + 1 ≡ i + 3 = omega arith in
    rw (a₃, e₀, e 1 (omega arith), e 2 (omega arith), e 3 (omega arith), back r.first l)

transition-back : (s : List ℕ) (i : ℕ) (r : TransitionRecord) → r.target < 65536 → r.next < 65536
    → ((j : ℕ) → j < 6 → get_or s (i + j) 0 ≡ get_or (transition_bytes r) j 0) → transition_record_at s i ≡ r
unfolding transition_record_at number_at transition_bytes two
transition-back s i r l k e =
    let e₀ = rw add-zero at (e 0 (omega arith)) in
    let a₃ : i + 2 + 1 ≡ i + 3 = omega arith in
    let a₅ : i + 4 + 1 ≡ i + 5 = omega arith in
    rw (a₃, a₅, e₀, e 1 (omega arith), e 2 (omega arith), e 3 (omega arith), e 4 (omega arith), e 5 (omega arith), back r.target l, back r.next k)

-- ## Bounds of the indices
pub index-small : (i j : ℕ) → first_index i j ≤ i + 1
unfolding first_index
index-small i j = go (eqb i j)
  where
    go : (b : Bool) → cond b 0 (i + 1) ≤ i + 1
    go true = omega arith
    go false = omega arith

pub next_small : (j : ℕ) (x : Transition) (l : List Transition) → next_index j x l ≤ j + 1
unfolding next_index
next_small j x [] = omega arith
next_small j x (y ∷ l) = go (eqb y.source x.source)
  where
    go : (b : Bool) → cond b (j + 1) 0 ≤ j + 1
    go true = omega arith
    go false = omega arith

-- ## The bytes of one transition record
transition-byte : (l : List Transition) (k j i : ℕ) → j < length l → i < 6
    → get_or (transitions_bytes k l) (6 * j + i) 0 ≡ get_or (transition_bytes (normal_transition (k + j) (nth l j) (drop (suc j) l))) i 0
unfolding transitions_bytes nth
transition-byte [] k j i l u = absurd (not-suc-le-zero l)
transition-byte (x ∷ l) k zero i m u =
    rw (zero-add i, add-zero k)
    (get_or-append (transition_bytes (normal_transition k x l)) (transitions_bytes (suc k) l) 0 i (rw record-length u))
transition-byte (x ∷ l) k (suc j) i m u =
    let r = transition_bytes (normal_transition k x l) in
    let e : 6 * suc j + i ≡ length r + (6 * j + i) = rw record-length (omega arith) in
    let c : k + suc j ≡ suc k + j = omega arith in
    rw (e, c) (get_or-append-add r (transitions_bytes (suc k) l) (6 * j + i) 0 ∙ transition-byte l (suc k) j i (omega arith) u)

module _ (K : Labelling) (L : Lts) (w : Encodable K L) where
  abbrev h : Header
  h = normal_header K.named L

  abbrev all : List Transition
  all = transitions L

  -- header and label records
  abbrev front : List ℕ
  front = header_bytes h ++ records_of K

  pub front_length : length (header_bytes (normal_header K.named L) ++ records_of K) ≡ 6 + labels_length (normal_header K.named L)
  front_length = rw (length-append, header-length, records-length K L.actions w.labelled h refl refl)

  pub normal-header : header_of (normal K L) ≡ normal_header K.named L
  unfolding normal sheet_bytes
  normal-header =
      let b = w.bounds in
      let states = states_bytes L L.states in
      let records = transitions_bytes 1 all in
      rw (append_assoc front states records, append_assoc (header_bytes h) (records_of K) (states ++ records))
      (header-back h _ (omega arith) (omega arith) (omega arith))

  -- ## The records of the normal form
  state-byte : (p i : ℕ) → p < L.states → i < 4 → get_or (normal K L) (6 + labels_length h + 4 * p + i) 0 ≡ get_or (state_bytes (normal_state L p)) i 0
  unfolding normal sheet_bytes states_bytes state_bytes two
  state-byte p i l k =
      let f : ℕ → List ℕ = λ q. state_bytes (normal_state L q) in
      let z = states-length L p in
      let y = states-length L L.states in
      let m = front_length in
      let e : 6 + labels_length h + 4 * p + i ≡ length front + (length (concat_below p f) + i) = omega arith in
      let n = length-append front (states_bytes L L.states) in
      rw e
      (get_or-append (front ++ states_bytes L L.states) _ 0 (length front + (length (concat_below p f) + i)) (omega arith)
      ∙ (get_or-append-add front (states_bytes L L.states) (length (concat_below p f) + i) 0 ∙ concat-at f 0 L.states p i l k))

  pub normal-state : (p : ℕ) → p < L.states → state_record (normal K L) (normal_header K.named L) p ≡ normal_state L p
  unfolding state_record normal_state transitions
  normal-state p l =
      let u = up-grows L L.states p (omega arith) in
      let b = w.bounds in
      let v = index-small (length (transitions_below L p)) (length (transitions_below L (suc p))) in
      state-back (normal K L) (6 + labels_length h + 4 * p) (normal_state L p) (omega arith) (λ j k. state-byte p j l k)

  transition-at : (i j : ℕ) → i < length all → j < 6
      → get_or (normal K L) (6 + labels_length h + 4 * L.states + 6 * i + j) 0
      ≡ get_or (transition_bytes (normal_transition (suc i) (nth all i) (drop (suc i) all))) j 0
  unfolding normal sheet_bytes
  transition-at i j l k =
      let a = front ++ states_bytes L L.states in
      let y = states-length L L.states in
      let n = length-append front (states_bytes L L.states) in
      let m = front_length in
      let e : 6 + labels_length h + 4 * L.states + 6 * i + j ≡ length a + (6 * i + j) = omega arith in
      rw e
      (get_or-append-add a (transitions_bytes 1 all) (6 * i + j) 0 ∙ rw one-add at (transition-byte all 1 i j l k))

  pub normal-transition : (i : ℕ) → i < length (transitions L)
      → transition_record (normal K L) (normal_header K.named L) (suc i) ≡ normal_transition (suc i) (nth (transitions L) i) (drop (suc i) (transitions L))
  unfolding transition_record normal_transition transitions
  normal-transition i l =
      let b = w.bounds in
      let v = (every-nth (Sourced L L.states) all i (all_keep L L.states) l).valid.target in
      let n = next_small (suc i) (nth all i) (drop (suc i) all) in
      let at₀ : suc i - 1 ≡ i = omega arith in
      rw at₀
      (transition-back (normal K L) (6 + labels_length h + 4 * L.states + 6 * i) (normal_transition (suc i) (nth all i) (drop (suc i) all)) (omega arith)
      (omega arith) (λ j k. transition-at i j l k))
