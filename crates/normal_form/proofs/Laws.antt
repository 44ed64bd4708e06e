-- What `normal` writes is the normal form, the only one; and the promise of normalise.
use Prim.Native.Nat.{ℕ}
use mathlib.Core.Path.{◌≡◌, refl, sym, ap, ap₂, ◌∙◌, subst}
use mathlib.Core.Logic.{◌↔◌}
use mathlib.Core.List.{List, []}
use lib.ListN.{length}
use Rattle.lts.specs.System.{Lts}
use Rattle.lts.specs.declared.Refusal.{Refusal}
use Rattle.lts.specs.Rule.{Nothing, First, broken, Reply, refused, given}
use Rattle.lts.proofs.Rule.{when-broken, when-kept, both-kept}
use Rattle.encoding.specs.declared.Header.{Header}
use Rattle.encoding.specs.Records.{header_of, IsBytes}
use Rattle.encoding.specs.Encoding.{sheet_rules, read_encoding}
use Rattle.encoding.specs.Labels.{Labelling, labelling_of}
use Rattle.encoding.specs.Denotation.{lts_of}
use Rattle.normal_form.specs.Normal.{normal_header, normal}
use Rattle.encoding.specs.Checked.{ReadableAs}
use Rattle.normal_form.specs.NormalForm.{IsNormal, Encodable, NormalForm}
use Rattle.normal_form.specs.Normalise.{NormaliseOutcome, normalise_rules, normalise_call, NormalisePromise}
use Rattle.encoding.proofs.Reader.{sheet-passed, readable_of, reads}
use Rattle.normal_form.proofs.Encodable.{labelled-header, sheet-length, sheet-encodable}
use Rattle.normal_form.proofs.NormalReads.{normal-header}
use Rattle.normal_form.proofs.NormalLabels.{same-labelling}
use Rattle.normal_form.proofs.NormalSame.{normal-readable, same}
use Rattle.normal_form.proofs.NormalOrder.{normal-is, normal-bytes}
use Rattle.normal_form.proofs.NormalOnly.{only_one}
use Rattle.std.specs.Prelude.{Ok}

-- what is in normal form is what `normal` writes
is-normal-of : (s : List ℕ) (h : Header) → IsBytes s → ReadableAs s h → IsNormal s h → s ≡ normal (labelling_of s) (lts_of s)
is-normal-of s h b g n =
    let K = labelling_of s in
    let L = lts_of s in
    let w = sheet-encodable g in
    let to : normal_header K.named L ≡ h = labelled-header g in
    only_one s (normal K L) h g (subst (ReadableAs (normal K L)) to (normal-readable K L w)) (sym (same K L w)) n
    (subst (IsNormal (normal K L)) to (normal-is K L w)) b (normal-bytes K L w) (sym (same-labelling K L w))

-- `normal` writes the normal form
pub normal-form : (K : Labelling) (L : Lts) → Encodable K L → NormalForm K L (normal K L)
normal-form K L w = record {
  bytes = normal-bytes K L w;
  reads = reads (normal K L) (normal_header K.named L) (normal-readable K L w);
  labelling = same-labelling K L w;
  same = same K L w;
  normal = normal-is K L w;
  only = λ u h b r n k q. is-normal-of u h b (readable_of r) n ∙ ap₂ normal k q;
}

-- a readable sequence of bytes is in normal form exactly if it is what `normal` writes of its labels and Lts
pub normal-iff : (s : List ℕ) (h : Header) → read_encoding s ≡ Ok h → IsBytes s → IsNormal s h ↔ (s ≡ normal (labelling_of s) (lts_of s))
normal-iff s h e b =
    let g = readable_of e in
    let is = normal-is (labelling_of s) (lts_of s) (sheet-encodable g) in (
      is-normal-of s h b g,
      λ q. subst (λ (x : List ℕ). IsNormal x h) (sym q) (subst (IsNormal (normal (labelling_of s) (lts_of s))) (labelled-header g) is),
    )

-- ## What is promised of normalise
module _ (s out₀ : List ℕ) (reply : Reply) (out : List ℕ) (is : normalise_call s out₀ ≡ record { reply = reply; out = out }) where
  broken-is : {r : Refusal} → broken (normalise_rules s out₀) ≡ First r
      → ◌≡◌ {A = NormaliseOutcome} (record { reply = reply; out = out }) (record { reply = refused r; out = out₀ })
  unfolding normalise_call
  broken-is e = when-broken (normalise_rules s out₀) _ _ is e

  kept-is : broken (normalise_rules s out₀) ≡ Nothing
      → ◌≡◌ {A = NormaliseOutcome} (record { reply = reply; out = out }) (record { reply = given []; out = normal (labelling_of s) (lts_of s) })
  unfolding normalise_call
  kept-is e = when-kept (normalise_rules s out₀) _ _ is e

  read_kept : broken (normalise_rules s out₀) ≡ Nothing → read_encoding s ≡ Ok (header_of s)
  unfolding normalise_rules
  read_kept e = sym (sheet-passed s refl (both-kept (sheet_rules s) _ e).0)

  out-is : broken (normalise_rules s out₀) ≡ Nothing → out ≡ normal (labelling_of s) (lts_of s)
  out-is e = ap (λ (o : NormaliseOutcome). o.out) (kept-is e)

  encodable : broken (normalise_rules s out₀) ≡ Nothing → Encodable (labelling_of s) (lts_of s)
  encodable e = sheet-encodable (readable_of (read_kept e))

  pub normalise-promised : NormalisePromise s out₀ reply out
  normalise-promised = record {
    refuses = λ r e. (ap (λ (o : NormaliseOutcome). o.reply) (broken-is e), ap (λ (o : NormaliseOutcome). o.out) (broken-is e));
    answers = λ e. (
      ap (λ (o : NormaliseOutcome). o.reply) (kept-is e),
      ap length (out-is e) ∙ sheet-length (readable_of (read_kept e)),
      ap header_of (out-is e) ∙ normal-header (labelling_of s) (lts_of s) (encodable e) ∙ labelled-header (readable_of (read_kept e)),
      rw (out-is e) (normal-form (labelling_of s) (lts_of s) (encodable e)),
    );
  }
