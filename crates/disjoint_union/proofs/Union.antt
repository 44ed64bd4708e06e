-- The joined flow of two sheets that keep the rules: a sheet can hold it, with its kind and labels.
use Prim.Native.Nat.{ℕ, suc, ◌+◌, ◌≤◌, ◌<◌, max}
use native.Mathlib.Omega.{arith}
use mathlib.Core.Path.{◌≡◌, refl, sym, ap, ap₂, subst, ◌∙◌}
use mathlib.Core.Bool.{true, false}
use mathlib.Core.List.{List, []}
use lib.ListN.{length, get_or}
use Rattle.lts.specs.Bounded.{list_below}
use Rattle.lts.specs.Transitions.{transitions}
use Rattle.lts.specs.Mapped.{mapped}
use Rattle.lts.specs.Union.{disjoint_union}
use Rattle.lts.specs.Labels.{joined_labels, joined_second, JoinedByLabel}
use Rattle.lts.proofs.Below.{neither, length-list_below}
use Rattle.lts.proofs.Mapped.{mapped-ends, mapped-count}
use Rattle.lts.proofs.Union.{union-count, union-ends}
use Rattle.lts.proofs.Labels.{second-sends, second-formed, joined-formed, joined-distinct, joined-each, joined-by-label, numbered-joined}
use Rattle.encoding.specs.declared.Header.{Header}
use Rattle.encoding.specs.Records.{header_of}
use Rattle.encoding.specs.Labels.{label_fits, decimal_label, label_in, labels_in, labels_of}
use Rattle.encoding.specs.Denotation.{lts_of}
use Rattle.encoding.specs.Checked.{ReadableAs}
use Rattle.encoding.specs.Read.{Denoted}
use Rattle.encoding.proofs.Reader.{reads}
use Rattle.encoding.proofs.Labels.{label-length, labels_length_lem, labels_at}
use Rattle.encoding.proofs.Laws.{denoted, plain-labels, decimals-apart, label-fits-each}
use Rattle.inputs.specs.Both.{matched_lts, joined_lts, Joinable}
use Rattle.normal_form.specs.NormalForm.{Labelled, Encodable}
use Rattle.disjoint_union.specs.Join.{joined_labelling}

-- what holds of each label of a sheet
each_label : (P : List ℕ → Type 0) (s : List ℕ) (h : Header) → ((i : ℕ) → i < h.actions → P (label_in s h (suc i))) → (i : ℕ) → i < length (labels_in s h)
    → P (get_or (labels_in s h) i [])
each_label P s h f i l =
    let k : i < h.actions = let n = labels_length_lem s h in omega (arith, n, l) in
    subst P (sym (labels_at s h i k)) (f i k)

module _ {first second : List ℕ} (r : ReadableAs first (header_of first)) (t : ReadableAs second (header_of second)) where
  one : Denoted first (header_of first)
  one = denoted first _ (reads first _ r)

  two : Denoted second (header_of second)
  two = denoted second _ (reads second _ t)

  abbrev A : List (List ℕ)
  A = labels_of first

  abbrev B : List (List ℕ)
  B = labels_of second

  by-label : JoinedByLabel A (lts_of first) B (lts_of second) (joined_labels A B) (joined_lts first second)
  by-label = joined-by-label A B (lts_of first) (lts_of second) one.formed two.formed one.labels two.labels

  -- two plain sheets have decimal labels, and so has their joined flow
  plain : (header_of first).named ≡ false → (header_of second).named ≡ false
      → joined_labels A B ≡ list_below (joined_lts first second).actions (λ i. decimal_label (suc i))
  plain p q =
      let m = (header_of first).actions in
      let k = (header_of second).actions in
      let few : (i j : ℕ) → i < max m k → j < max m k → decimal_label (suc i) ≡ decimal_label (suc j) → i ≡ j =
      decimals-apart (max m k) (omega (arith, one.bounds.actions, two.bounds.actions)) in
      let e = ap₂ joined_labels (plain-labels first _ p) (plain-labels second _ q) ∙ numbered-joined (λ i. decimal_label (suc i)) m k few in
      let n : max m k ≡ (joined_lts first second).actions =
      sym (length-list_below (max m k) (λ i. decimal_label (suc i))) ∙ ap length (sym e) ∙ sym by-label.actions in
      e ∙ ap (λ (x : ℕ). list_below x (λ i. decimal_label (suc i))) n

  number : (i : ℕ) → i < (joined_lts first second).actions → i < length (joined_labels A B)
  number i l = let n = by-label.actions in omega (arith, n, l)

  labelled : Labelled (joined_labelling first second) (joined_lts first second).actions
  unfolding joined_labelling
  labelled =
      record {
        count = sym by-label.actions;
        plain = λ e. let k = neither (header_of first).named (header_of second).named e in plain k.0 k.1;
        long = λ i l. joined-each A B (λ x. length x ≡ 16) (each_label (λ x. length x ≡ 16) first _ (λ i _. label-length first _ (suc i)))
            (each_label (λ x. length x ≡ 16) second _ (λ i _. label-length second _ (suc i))) i (number i l);
        fit = λ i l. joined-each A B (λ x. label_fits x ≡ true)
            (each_label (λ x. label_fits x ≡ true) first _ (label-fits-each first _ one.bounds r.labels))
            (each_label (λ x. label_fits x ≡ true) second _ (label-fits-each second _ two.bounds t.labels)) i (number i l);
        once = joined-distinct A B one.labels.once;
      }

  union-states : (joined_lts first second).states ≡ (lts_of first).states + (matched_lts first second).states
  unfolding disjoint_union
  union-states = refl

  -- the second's flow with its actions matched: no end mark outside its states, and no more transitions
  ends : (p : ℕ) → (matched_lts first second).states ≤ p → (matched_lts first second).terminating p ≡ false
  unfolding joined_second mapped
  ends = mapped-ends (second-sends A B (lts_of second) two.formed two.labels)

  both_ends : (p : ℕ) → (joined_lts first second).states ≤ p → (joined_lts first second).terminating p ≡ false
  both_ends p l = union-ends (lts_of first) (matched_lts first second) ends p (subst (λ (n : ℕ). n ≤ p) union-states l)

  fewer : length (transitions (matched_lts first second)) ≤ length (transitions (lts_of second))
  unfolding joined_second
  fewer = mapped-count _ _ _ _ (lts_of second) two.formed

  encodable : (header_of first).states + (header_of second).states ≤ 256 → (header_of first).transitions + (header_of second).transitions ≤ 1024
      → length (joined_labels A B) ≤ 64 → Encodable (joined_labelling first second) (joined_lts first second)
  encodable few many labels =
      let n = by-label.states in
      let m = by-label.actions in
      let k = union-count one.formed (second-formed A B (lts_of second) two.formed two.labels) in
      record {
        formed = joined-formed A B (lts_of first) (lts_of second) one.formed two.formed one.labels two.labels;
        ends = both_ends;
        bounds = record {
          state = omega (arith, n, one.states, one.bounds.state);
          states = omega (arith, n, one.states, two.states, few);
          actions = omega (arith, m, labels);
          transitions = omega (arith, k, fewer, one.transitions, two.transitions, many);
        };
        labelled = labelled;
      }

pub joined-encodable : {first second : List ℕ} {m : ℕ} → Joinable first (header_of first) second (header_of second) m
    → Encodable (joined_labelling first second) (joined_lts first second)
joined-encodable j = encodable j.one j.two j.states j.transitions (let c = j.count in let l = j.labels in omega (arith, c, l))

pub joined-named : {first second : List ℕ} {m : ℕ} → Joinable first (header_of first) second (header_of second) m
    → JoinedByLabel (labels_of first) (lts_of first) (labels_of second) (lts_of second) (joined_labels (labels_of first) (labels_of second)) (joined_lts first second)
joined-named j = by-label j.one j.two
