-- Labels and systems that a sheet can hold: those of a readable sheet, and the system of a table.
use Prim.Native.Nat.{ℕ}
use mathlib.Core.Path.{◌≡◌, sym, ap, ◌∙◌, subst}
use mathlib.Core.Bool.{Bool}
use mathlib.Core.List.{List}
use lib.ListN.{length}
use Rattle.encoding.specs.declared.Header.{Header}
use Rattle.encoding.specs.Records.{encoding_length}
use Rattle.encoding.specs.Labels.{labelling_of}
use Rattle.encoding.specs.Checked.{Bounds, ReadableAs}
use Rattle.encoding.specs.Denotation.{lts_of}
use Rattle.transitions.specs.Table.{table_lts, Formed}
use Rattle.normal_form.specs.Normal.{normal_header, normal}
use Rattle.normal_form.specs.NormalForm.{Labelled, Encodable}
use Rattle.encoding.proofs.Reader.{reads}
use Rattle.encoding.proofs.Denotation.{lts-ends}
use Rattle.encoding.proofs.Laws.{denoted}
use Rattle.transitions.proofs.Filled.{transitions-count}
use Rattle.normal_form.proofs.Labelled.{normal-length, sheet-labelled}

-- ## Of a readable sheet
-- the counts of its system and its kind are its header
pub sheet-header : {s : List ℕ} {h : Header} → ReadableAs s h → normal_header h.named (lts_of s) ≡ h
sheet-header {s} {h} g =
    let d = denoted s h (reads s h g) in
    λ i. record { states = d.states i; actions = d.actions i; transitions = d.transitions i; named = h.named }

pub labelled-header : {s : List ℕ} {h : Header} → ReadableAs s h → normal_header (labelling_of s).named (lts_of s) ≡ h
labelled-header {s} g = ap (λ (x : Header). normal_header x.named (lts_of s)) (sym g.header) ∙ sheet-header g

pub sheet-encodable : {s : List ℕ} {h : Header} → ReadableAs s h → Encodable (labelling_of s) (lts_of s)
sheet-encodable {s} {h} g =
    let d = denoted s h (reads s h g) in
    record {
      formed = d.formed;
      ends = lts-ends s h g.header;
      bounds = subst Bounds (sym (labelled-header g)) d.bounds;
      labelled = subst (Labelled (labelling_of s)) (sym d.actions) (sheet-labelled s h g);
    }

-- the normal form of its labels and system has its own length
pub sheet-length : {s : List ℕ} {h : Header} → ReadableAs s h → length (normal (labelling_of s) (lts_of s)) ≡ length s
sheet-length {s} g =
    normal-length (labelling_of s) (lts_of s) (sheet-encodable g).labelled ∙ ap encoding_length (labelled-header g) ∙ sym g.recorded.sized.long

-- ## Of a table
pub table-bounds : (t : List ℕ) → Formed t → (named : Bool) → Bounds (normal_header named (table_lts t))
unfolding table_lts
table-bounds t ok named =
    record { state = ok.some; states = ok.states; actions = ok.labels; transitions = rw (transitions-count t ok) ok.size }
