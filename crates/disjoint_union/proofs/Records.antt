-- The label records of the joined flow.
use Prim.Native.Nat.{ℕ, ◌*◌}
use mathlib.Core.Path.{◌≡◌, sym, ap, ap₂, subst₂, ◌∙◌}
use mathlib.Core.Bool.{Bool, true, false, cond, not, ◌||◌}
use mathlib.Core.List.{List, []}
use borrow.Author.Tests.{not-true, not-false}
use lib.ListN.{length, take}
use Rattle.lts.specs.System.{Lts}
use Rattle.lts.specs.Labels.{joined_labels}
use Rattle.encoding.specs.declared.Header.{Header}
use Rattle.encoding.specs.Records.{header_of, labels_length}
use Rattle.encoding.specs.Labels.{labels_in, labels_of, labels_bytes, records_of}
use Rattle.transitions.specs.Table.{table_lts, Holds}
use Rattle.labels.specs.Maps.{Begins}
use Rattle.encoding.proofs.Bytes.{Sixteen, label-sixteen, bytes-length}
use Rattle.lts.proofs.Labels.{joined-each}
use Rattle.inputs.specs.Both.{joined_lts, Joinable}
use Rattle.normal_form.specs.Normal.{normal_header}
use Rattle.normal_form.proofs.Labelled.{records-length}
use Rattle.disjoint_union.specs.Join.{joined_labelling}
use Rattle.disjoint_union.proofs.Union.{joined-encodable}

module _ {first second : List ℕ} {h g : Header} {m : ℕ} (j : Joinable first h second g m) where
  -- with the sheets' own headers
  own : Joinable first (header_of first) second (header_of second) m
  own = subst₂ (λ (x y : Header). Joinable first x second y m) j.one.header j.two.header j

  pub kind-is : (h.named || g.named) ≡ (joined_labelling first second).named
  unfolding joined_labelling
  kind-is = ap₂ (λ (x y : Header). x.named || y.named) j.one.header j.two.header

  -- a plain sheet has no records
  pub no-records : not (h.named || g.named) ≡ true → [] ≡ records_of (joined_labelling first second)
  unfolding records_of
  no-records e = sym (ap (λ (b : Bool). cond b (labels_bytes (joined_labelling first second).labels) []) (sym kind-is ∙ not-true _ e))

  -- a named one has the joined labels
  records-are : not (h.named || g.named) ≡ false → labels_bytes (joined_labels (labels_in first h) (labels_in second g)) ≡ records_of (joined_labelling first second)
  unfolding records_of joined_labelling
  records-are e =
      ap₂ (λ (x y : Header). labels_bytes (joined_labels (labels_in first x) (labels_in second y))) j.one.header j.two.header
      ∙ sym (ap (λ (b : Bool). cond b (labels_bytes (joined_labels (labels_of first) (labels_of second))) []) (sym kind-is ∙ not-false _ e))

  -- their length, by a table of the joined flow
  pub records-long : {t records : List ℕ} {named : Bool} → Holds (joined_lts first second) t → named ≡ (h.named || g.named)
      → records ≡ records_of (joined_labelling first second) → length records ≡ labels_length (normal_header named (table_lts t))
  records-long {t} {records} {named} k e r =
      ap length r
      ∙ records-length (joined_labelling first second) (joined_lts first second).actions (joined-encodable own).labelled (normal_header named (table_lts t)) (e ∙ kind-is)
      (ap (λ (L : Lts). L.actions) k.same)

  each : Sixteen (joined_labels (labels_in first h) (labels_in second g))
  each = joined-each (labels_in first h) (labels_in second g) (λ x. length x ≡ 16) (label-sixteen first h) (label-sixteen second g)

  -- and by the number of labels
  pub records-sixteen : {out : List ℕ} → not (h.named || g.named) ≡ false → Begins out (labels_bytes (joined_labels (labels_in first h) (labels_in second g)))
      → take (16 * m) out ≡ records_of (joined_labelling first second)
  records-sixteen {out} e b =
      let bytes = labels_bytes (joined_labels (labels_in first h) (labels_in second g)) in
      let size : 16 * m ≡ length bytes = ap (λ (i : ℕ). 16 * i) j.count ∙ sym (bytes-length (joined_labels (labels_in first h) (labels_in second g)) each) in
      ap (λ (i : ℕ). take i out) size ∙ b.front ∙ records-are e
