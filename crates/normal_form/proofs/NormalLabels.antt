-- The labels of a normal form are read back as they were written, and keep rule 17.
use Prim.Native.Nat.{ℕ, suc, ◌+◌, ◌*◌, ◌-◌, ◌<◌}
use mathlib.Core.Path.{◌≡◌, refl, sym, ap, ◌∙◌}
use mathlib.Core.Bool.{Bool, true, false, not, or-true}
use mathlib.Core.List.{List, [], ◌++◌}
use native.Mathlib.Omega.{arith}
use lib.ListN.{length, get_or, length-append, get_or-append}
use lib.Seq.{get_or-append-add, ext_get_or}
use Rattle.lts.specs.System.{Lts}
use Rattle.lts.specs.Places.{distinct}
use Rattle.lts.specs.Labels.{same_label}
use Rattle.lts.proofs.Below.{T_true, all_of, list_ext}
use Rattle.encoding.specs.declared.Header.{Header}
use Rattle.encoding.specs.Records.{header_bytes, label_record_at, label_record}
use Rattle.encoding.specs.Labels.{label_fits, label_in, labels_in, labels_fit, Labelling, labelling_of, records_of}
use Rattle.encoding.proofs.Sizes.{labels-all}
use Rattle.encoding.proofs.Labels.{named-label, labels_length_lem, labels_at}
use Rattle.encoding.proofs.Laws.{plain-labels}
use Rattle.normal_form.specs.Normal.{normal_header, states_bytes, sheet_bytes, normal}
use Rattle.normal_form.specs.NormalForm.{Encodable}
use Rattle.encoding.proofs.Parts.{header-length}
use Rattle.normal_form.proofs.Labelled.{label-byte}
use Rattle.normal_form.proofs.NormalReads.{front_length, normal-header}

module _ (K : Labelling) (L : Lts) (w : Encodable K L) where
  abbrev h : Header
  h = normal_header K.named L

  abbrev front : List ℕ
  front = header_bytes h ++ records_of K

  -- byte d of label record i, from 0
  byte_at : K.named ≡ true → (i d : ℕ) → i < L.actions → d < 16 → get_or (normal K L) (6 + (16 * i + d)) 0 ≡ get_or (get_or K.labels i []) d 0
  unfolding normal sheet_bytes
  byte_at n i d l u =
      let m = front_length K L w in
      let size = labels-all h n in
      let states = length-append front (states_bytes L L.states) in
      let e : 6 + (16 * i + d) ≡ length (header_bytes h) + (16 * i + d) = rw header-length in
      get_or-append (front ++ states_bytes L L.states) _ 0 (6 + (16 * i + d)) (omega (arith, l, u, m, size, states))
      ∙ get_or-append front (states_bytes L L.states) 0 (6 + (16 * i + d)) (omega (arith, l, u, m, size))
      ∙ ap (λ (j : ℕ). get_or front j 0) e ∙ get_or-append-add (header_bytes h) (records_of K) (16 * i + d) 0
      ∙ label-byte K L.actions w.labelled n i d l u

  label_is : K.named ≡ true → (i : ℕ) → i < L.actions → label_in (normal K L) h (suc i) ≡ get_or K.labels i []
  unfolding label_record label_record_at
  label_is n i l =
      named-label (normal K L) h (suc i) n
      ∙ sym (list_ext 16 (λ d. get_or (normal K L) (6 + 16 * (suc i - 1) + d) 0) (get_or K.labels i []) (w.labelled.long i l)
      (λ d u. let at : 6 + (16 * i + d) ≡ 6 + 16 * (suc i - 1) + d = omega arith in
      sym (byte_at n i d l u) ∙ ap (λ (j : ℕ). get_or (normal K L) j 0) at))

  labels-are : labels_in (normal K L) h ≡ K.labels
  labels-are = go K.named refl
    where
      count : length (labels_in (normal K L) h) ≡ L.actions
      count = labels_length_lem (normal K L) h

      go : (b : Bool) → K.named ≡ b → labels_in (normal K L) h ≡ K.labels
      go false n = plain-labels (normal K L) h n ∙ sym (w.labelled.plain n)
      go true n = ext_get_or [] (labels_in (normal K L) h) K.labels (count ∙ sym w.labelled.count)
          (λ i l. let inside : i < L.actions = omega (arith, l, count) in
          labels_at (normal K L) h i inside ∙ label_is n i inside)

  -- rule 17
  pub labels-ok : labels_fit (normal K L) (normal_header K.named L) ≡ true
  unfolding labels_fit
  labels-ok =
      let each = all_of L.actions (λ i. label_fits (label_in (normal K L) h (suc i)))
      (λ i l. ap label_fits (sym (labels_at (normal K L) h i l) ∙ ap (λ (x : List (List ℕ)). get_or x i []) labels-are) ∙ w.labelled.fit i l) in
      rw (each, labels-are, T_true (distinct same_label K.labels) w.labelled.once) (or-true (not K.named))

  -- the kind and the labels
  pub same-labelling : labelling_of (normal K L) ≡ K
  same-labelling =
      let head = normal-header K L w in
      let labels = ap (labels_in (normal K L)) head ∙ labels-are in
      λ i. record { named = (head i).named; labels = labels i }
