-- A plain sheet and the named sheet with decimal names of the same records (document 02, L2): the same refusal, the same Lts, the same labels.
use Prim.Native.Nat.{ℕ, zero, suc, ◌+◌, ◌*◌, ◌-◌, ◌≤◌, ◌<◌}
use native.Mathlib.Nat.{add_assoc}
use native.Mathlib.Omega.{arith}
use mathlib.Core.Path.{◌≡◌, refl, sym, ap, ap₂, subst, fun_ext, ◌∙◌}
use mathlib.Core.Bool.{Bool, true, false}
use mathlib.Core.List.{List, []}
use borrow.Author.Tests.{le-leb, eq-eqb, eqb-true}
use lib.Dec.{T, leb, eqb}
use lib.ListN.{length, drop}
use lib.Seq.{get_or-drop, ext_get_or}
use Rattle.lts.specs.Places.{distinct}
use Rattle.lts.specs.Labels.{same_label}
use Rattle.lts.specs.declared.Refusal.TheVariants.{Range}
use Rattle.lts.specs.Rule.{First, broken}
use Rattle.lts.proofs.Below.{T_true, bool_iff, all_of}
use Rattle.encoding.specs.declared.Header.{Header}
use Rattle.encoding.specs.Records.{number_at, header_of, state_at, encoding_length, system_records}
use Rattle.encoding.specs.Records.{label_record, state_record, state_record_at, transition_record, transition_record_at}
use Rattle.encoding.specs.Labels.{label_fits, decimal_label, label_in, labels_fit, labels_of}
use Rattle.encoding.specs.Encoding.{in_range, state_fits, states_fit, transition_fits, transitions_fit, walk, chain, reached, on_some_chain, all_reached}
use Rattle.encoding.specs.Encoding.{indices, named_twice, none_twice, successor, successors_fit, headed_rules, sheet_rules}
use Rattle.encoding.specs.Denotation.{lts_of}
use Rattle.encoding.proofs.Sizes.{labels-none, labels-all}
use Rattle.encoding.proofs.Labels.{named-label, plain_label, labels_length_lem, labels_at}
use Rattle.encoding.proofs.Laws.{labels-once, label-fits-each}
use Rattle.encoding.proofs.Reader.{in-range}

-- s is a plain sheet, and t the named sheet with decimal names of the same records
pub record Twins (s t : List ℕ) : Type 0 where
  pub plain : (header_of s).named ≡ false
  pub named : (header_of t).named ≡ true
  pub states : (header_of s).states ≡ (header_of t).states
  pub actions : (header_of s).actions ≡ (header_of t).actions
  pub transitions : (header_of s).transitions ≡ (header_of t).transitions
  -- s has a header, and t is longer by the names
  pub header : 6 ≤ length s
  pub longer : length t ≡ length s + 16 * (header_of s).actions
  pub names : (a : ℕ) → 1 ≤ a → a ≤ (header_of s).actions → (label_record t (header_of t) a).bytes ≡ decimal_label a
  -- from the state records on the same bytes
  pub records : system_records s (header_of s) ≡ system_records t (header_of t)

-- ## The records, from the first state record on
number_behind : (s : List ℕ) (k i : ℕ) → number_at (drop k s) i ≡ number_at s (k + i)
unfolding number_at
number_behind s k i = rw (get_or-drop k s i 0, get_or-drop k s (i + 1) 0, ← add_assoc k i 1)

module _ (s : List ℕ) (k i : ℕ) where
  state-behind : state_record_at (drop k s) i ≡ state_record_at s (k + i)
  unfolding state_record_at
  state-behind = rw (get_or-drop k s i 0, get_or-drop k s (i + 1) 0, number_behind s k (i + 2), ← add_assoc k i 1, ← add_assoc k i 2)

  transition-behind : transition_record_at (drop k s) i ≡ transition_record_at s (k + i)
  unfolding transition_record_at
  transition-behind =
      rw (
        get_or-drop k s i 0,
        get_or-drop k s (i + 1) 0,
        number_behind s k (i + 2),
        number_behind s k (i + 4),
        ← add_assoc k i 1,
        ← add_assoc k i 2,
        ← add_assoc k i 4,
      )

module _ (s : List ℕ) (h : Header) where
  state-in : (p : ℕ) → state_record s h p ≡ state_record_at (system_records s h) (4 * p)
  unfolding state_record system_records
  state-in p = ap (state_record_at s) (omega arith) ∙ sym (state-behind s (state_at h 0) (4 * p))

  transition-in : (j : ℕ) → transition_record s h j ≡ transition_record_at (system_records s h) (4 * h.states + 6 * (j - 1))
  unfolding transition_record system_records
  transition-in j = ap (transition_record_at s) (omega arith) ∙ sym (transition-behind s (state_at h 0) (4 * h.states + 6 * (j - 1)))

-- ## Two encodings with the same counts and the same records
record Alike (s : List ℕ) (g : Header) (t : List ℕ) (h : Header) : Type 0 where
  pub states : g.states ≡ h.states
  pub actions : g.actions ≡ h.actions
  pub transitions : g.transitions ≡ h.transitions
  pub state : state_record s g ≡ state_record t h
  pub transition : transition_record s g ≡ transition_record t h

module _ {s t : List ℕ} {g h : Header} (k : Alike s g t h) where
  range_same : in_range g ≡ in_range h
  unfolding in_range
  range_same = rw (k.states, k.actions, k.transitions)

  states-same : states_fit s g ≡ states_fit t h
  unfolding states_fit state_fits
  states-same = rw (k.state, k.states, k.transitions)

  transitions-same : transitions_fit s g ≡ transitions_fit t h
  unfolding transitions_fit transition_fits
  transitions-same = rw (k.transition, k.states, k.actions, k.transitions)

  walk_same : (fuel j : ℕ) → walk s g fuel j ≡ walk t h fuel j
  unfolding walk
  walk_same zero j = refl
  walk_same (suc fuel) zero = refl
  walk_same (suc fuel) (suc j) = rw (k.transition, walk_same fuel (transition_record t h (suc j)).next)

  chain_same : chain s g ≡ chain t h
  unfolding chain
  chain_same = fun_ext (λ p. walk_same (suc g.transitions) (state_record s g p).first ∙ rw (k.state, k.transitions))

  on-chain-same : on_some_chain s g ≡ on_some_chain t h
  unfolding on_some_chain reached
  on-chain-same = fun_ext (λ j. rw (chain_same, k.states))

  all-reached-same : all_reached s g ≡ all_reached t h
  unfolding all_reached
  all-reached-same = rw (on-chain-same, k.transitions)

  indices-same : indices s g ≡ indices t h
  unfolding indices
  indices-same = rw (k.state, k.transition, k.states, k.transitions)

  named-twice-same : named_twice s g ≡ named_twice t h
  unfolding named_twice
  named-twice-same = fun_ext (λ j. rw indices-same)

  none-twice-same : none_twice s g ≡ none_twice t h
  unfolding none_twice
  none-twice-same = rw (named-twice-same, k.transitions)

  successor-same : successor s g ≡ successor t h
  unfolding successor
  successor-same = fun_ext (λ j. rw k.transition)

  successors-same : successors_fit s g ≡ successors_fit t h
  unfolding successors_fit
  successors-same = rw (successor-same, chain_same, k.states)

  -- the rules, where those for the length and the labels agree
  rules-same : leb 6 (length s) ≡ leb 6 (length t) → eqb (length s) (encoding_length g) ≡ eqb (length t) (encoding_length h)
      → labels_fit s g ≡ labels_fit t h → headed_rules s g ≡ headed_rules t h
  unfolding headed_rules
  rules-same least long labels =
      rw (
        least,
        long,
        labels,
        range_same,
        states-same,
        transitions-same,
        on-chain-same,
        all-reached-same,
        named-twice-same,
        none-twice-same,
        successors-same,
        k.transitions,
      )

-- a sheet with a header and counts out of range is refused for the counts
out_of_range : (s : List ℕ) (h : Header) → 6 ≤ length s → in_range h ≡ false → broken (headed_rules s h) ≡ First Range
unfolding headed_rules broken
out_of_range s h l e = rw (le-leb 6 (length s) l, e)

-- ## The laws of twins
module _ {s t : List ℕ} (w : Twins s t) where
  alike : Alike s (header_of s) t (header_of t)
  alike = record {
    states = w.states;
    actions = w.actions;
    transitions = w.transitions;
    state = fun_ext (λ p. state-in s (header_of s) p ∙ ap (λ (l : List ℕ). state_record_at l (4 * p)) w.records ∙ sym (state-in t (header_of t) p));
    transition = fun_ext (λ j.
        transition-in s (header_of s) j
        ∙ ap₂ (λ (l : List ℕ) (n : ℕ). transition_record_at l (4 * n + 6 * (j - 1))) w.records w.states
        ∙ sym (transition-in t (header_of t) j));
  }

  pub twin-lts : lts_of s ≡ lts_of t
  unfolding lts_of
  twin-lts = let k = alike in rw (k.state, k.transition, chain_same k, k.states, k.actions)

  -- action i + 1 has the same label in both
  twin-label : (i : ℕ) → i < (header_of s).actions → label_in s (header_of s) (suc i) ≡ label_in t (header_of t) (suc i)
  twin-label i l =
      plain_label s (header_of s) (suc i) w.plain ∙ sym (w.names (suc i) (omega arith) l) ∙ sym (named-label t (header_of t) (suc i) w.named)

  pub twin-labels : labels_of s ≡ labels_of t
  twin-labels =
      let m = labels_length_lem s (header_of s) in
      ext_get_or [] (labels_of s) (labels_of t) (m ∙ w.actions ∙ sym (labels_length_lem t (header_of t)))
      (λ i l. let u : i < (header_of s).actions = omega (arith, l, m) in
      labels_at s (header_of s) i u ∙ twin-label i u ∙ sym (labels_at t (header_of t) i (omega (arith, u, w.actions))))

  -- a plain sheet keeps rule 17, and its twin does where the counts are in range
  plain-fit : labels_fit s (header_of s) ≡ true
  unfolding labels_fit
  plain-fit = rw w.plain

  twin-fit : in_range (header_of s) ≡ true → labels_fit t (header_of t) ≡ true
  unfolding labels_fit
  twin-fit e =
      let b = in-range (header_of s) e in
      let each = all_of (header_of t).actions (λ i. label_fits (label_in t (header_of t) (suc i))) (λ i l.
      let u : i < (header_of s).actions = omega (arith, l, w.actions) in
      subst (λ (x : List ℕ). label_fits x ≡ true) (twin-label i u) (label-fits-each s (header_of s) b plain-fit i u)) in
      let once = subst (λ (l : List (List ℕ)). T (distinct same_label l)) twin-labels (labels-once s (header_of s) b plain-fit) in
      rw (each, T_true (distinct same_label (labels_of t)) once, w.named)

  -- the lengths are both the ones that the headers say, or neither
  twin-long : eqb (length s) (encoding_length (header_of s)) ≡ eqb (length t) (encoding_length (header_of t))
  twin-long =
      let none = labels-none (header_of s) w.plain in
      let all = labels-all (header_of t) w.named in
      bool_iff
      (λ e. let z = eqb-true (length s) (encoding_length (header_of s)) e in
      eq-eqb (length t) (encoding_length (header_of t)) (omega (arith, z, none, all, w.longer, w.states, w.actions, w.transitions)))
      (λ e. let z = eqb-true (length t) (encoding_length (header_of t)) e in
      eq-eqb (length s) (encoding_length (header_of s)) (omega (arith, z, none, all, w.longer, w.states, w.actions, w.transitions)))

  twin-least : leb 6 (length s) ≡ leb 6 (length t)
  twin-least = le-leb 6 (length s) w.header ∙ sym (le-leb 6 (length t) (omega (arith, w.header, w.longer)))

  pub twin-broken : broken (sheet_rules s) ≡ broken (sheet_rules t)
  unfolding sheet_rules
  twin-broken = go (in_range (header_of s)) refl
    where
      go : (b : Bool) → in_range (header_of s) ≡ b → broken (headed_rules s (header_of s)) ≡ broken (headed_rules t (header_of t))
      go true e = ap broken (rules-same alike twin-least twin-long (plain-fit ∙ sym (twin-fit e)))
      go false e =
          out_of_range s (header_of s) w.header e
          ∙ sym (out_of_range t (header_of t) (omega (arith, w.header, w.longer)) (sym (range_same alike) ∙ e))
