-- What normalising comes to, by what reading answers.
use Prim.Native.Nat.{ℕ}
use mathlib.Core.Path.{◌≡◌, refl, sym, ap, ap₂, ◌∙◌}
use mathlib.Core.Bool.{Bool}
use mathlib.Core.List.{List, ◌++◌, append-nil}
use borrow.Author.Tests.{eq-eqb, ne_eqb}
use lib.ListN.{length, drop}
use lib.Seq.{drop-length}
use Rattle.lts.specs.System.{Lts}
use Rattle.lts.specs.declared.Refusal.{Refusal}
use Rattle.lts.specs.declared.Refusal.TheVariants.{Buffer}
use Rattle.lts.specs.Rule.{First, broken, checked_reply, Answer}
use Rattle.lts.proofs.Rule.{stop, pass, done, first_part, second-part, refuses, passes, passed_on}
use Rattle.encoding.specs.declared.Header.{Header}
use Rattle.encoding.specs.Encoding.{sheet_rules, read_encoding}
use Rattle.encoding.specs.Records.{labels_length, encoding_length, label_records}
use Rattle.encoding.specs.Labels.{labelling_of}
use Rattle.encoding.specs.Denotation.{lts_of}
use Rattle.transitions.specs.Table.{table_lts, Holds}
use Rattle.normal_form.specs.Normal.{normal_header, sheet_bytes, normal}
use Rattle.normal_form.specs.Normalise.{normalise_rules, normalise_call, NormalisePromise}
use Rattle.encoding.proofs.Reader.{readable_of, sheet-broken, sheet-kept}
use Rattle.normal_form.proofs.Encodable.{sheet-header, sheet-length}
use Rattle.encoding.proofs.Parts.{labels-size}
use Rattle.normal_form.proofs.Labelled.{sheet-records}
use Rattle.normal_form.proofs.Laws.{normalise-promised}
use Rattle.std.specs.Prelude.{Ok, Err, IsErrAnd}

-- what `normalise` says of its answer r and of the bytes o that it leaves
abbrev Meets : List ℕ → List ℕ → Answer (Unit {0}) → List ℕ → Type 0
Meets s out r o = (normalise_call s out ≡ record { reply = checked_reply r; out = o }) × NormalisePromise s out (checked_reply r) o

module _ (s out : List ℕ) where
  meets : (r : Answer (Unit {0})) (o : List ℕ) → normalise_call s out ≡ record { reply = checked_reply r; out = o } → Meets s out r o
  meets r o e = (e, normalise-promised s out _ _ e)

  refusing : {r : Refusal} → broken (normalise_rules s out) ≡ First r → Meets s out (Err r) out
  unfolding normalise_call checked_reply
  refusing {r} e = meets (Err r) out (refuses (normalise_rules s out) _ _ e)

  -- the refusal of the sheet is passed on as x
  pub stopped : (x : Answer (Unit {0})) {r : Refusal} → read_encoding s ≡ Err r → IsErrAnd x (λ q. q ≡ r) → Meets s out x out
  unfolding normalise_rules
  stopped x e q = rw (passed_on x q) (refusing (first_part (sheet_rules s) _ (sheet-broken s e)))

  pub misfit : {h : Header} → read_encoding s ≡ Ok h → (length out ≡ length s → ⊥) → Meets s out (Err Buffer) out
  unfolding normalise_rules
  misfit e n = refusing (stop _ _ _ (second-part (sheet_rules s) _ (sheet-kept s e).0) (sym (ne_eqb (length out) (length s) n)) refl)

  -- the sheet of the table that the encoding is loaded into, with its own label records, fills the buffer
  module _ {h : Header} {t : List ℕ} (e : read_encoding s ≡ Ok h) (n : length out ≡ length s) (k : Holds (lts_of s) t) where
    table-header : normal_header h.named (table_lts t) ≡ h
    table-header = ap (normal_header h.named) k.same ∙ sheet-header (readable_of e)

    pub labels-fill : (labels : List ℕ) → labels ≡ label_records s h → length labels ≡ labels_length (normal_header h.named (table_lts t))
    labels-fill labels q = ap length q ∙ labels-size s h (readable_of e).recorded.sized ∙ ap labels_length (sym table-header)

    pub fills : encoding_length (normal_header h.named (table_lts t)) ≡ length out
    fills = ap encoding_length table-header ∙ sym (readable_of e).recorded.sized.long ∙ sym n

    is_normal : sheet_bytes h.named (label_records s h) (table_lts t) ≡ normal (labelling_of s) (lts_of s)
    unfolding normal
    is_normal =
        let g = readable_of e in
        ap (λ (L : Lts). sheet_bytes h.named (label_records s h) L) k.same
        ∙ ap₂ (λ (b : Bool) (l : List ℕ). sheet_bytes b l (lts_of s)) (ap (λ (x : Header). x.named) g.header) (sym (sheet-records s h g))

    pub written : (labels : List ℕ) {o : List ℕ} → labels ≡ label_records s h
        → (let bytes = sheet_bytes h.named labels (table_lts t) in o ≡ bytes ++ drop (length bytes) out) → Meets s out (Ok tt) o
    unfolding normalise_rules normalise_call checked_reply
    written labels {o} q w =
        let kept = done (pass _ _ _ (second-part (sheet_rules s) _ (sheet-kept s e).0) (sym (eq-eqb (length out) (length s) n)) refl) in
        let bytes = normal (labelling_of s) (lts_of s) in
        let full : length bytes ≡ length out = sheet-length (readable_of e) ∙ sym n in
        let all : o ≡ bytes = rw (q, is_normal) at w ∙ rw (full, drop-length) (append-nil bytes) in
        meets (Ok tt) o (rw all (passes (normalise_rules s out) _ _ kept))
