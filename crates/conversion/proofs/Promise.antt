-- What is promised of to named and to plain.
use Prim.Native.Nat.{ℕ}
use native.Mathlib.Omega.{arith}
use mathlib.Core.Path.{◌≡◌, sym, ap, ◌∙◌}
use mathlib.Core.Logic.{⊎_elim, ◌↔◌}
use mathlib.Core.Bool.{Bool, true, false}
use mathlib.Core.List.{List, []}
use lib.ListN.{length}
use Rattle.lts.specs.declared.Refusal.{Refusal}
use Rattle.lts.specs.declared.Refusal.TheVariants.{NotDecimal}
use Rattle.lts.specs.Rule.{Rule, Nothing, First, broken, Reply, refused, given}
use Rattle.lts.proofs.Rule.{passes, finding, numbered, refusal-iff, when-broken, when-kept}
use Rattle.encoding.specs.declared.Header.{Header}
use Rattle.encoding.specs.Records.{IsBytes, header_of, of_kind, encoding_length}
use Rattle.encoding.specs.Encoding.{sheet_rules}
use Rattle.encoding.proofs.Reader.{sheet-kept}
use Rattle.conversion.specs.Conversion.{in_kind, named_in_decimal, to_named_rules, to_plain_rules, ConversionOutcome, conversion, to_named_call, to_plain_call}
use Rattle.conversion.specs.Conversion.{Converted, ConversionPromise, OtherName, ToNamedPromise, ToPlainPromise}
use Rattle.conversion.proofs.InKind.{kind-length}
use Rattle.conversion.proofs.Rules.{plain-decimal, same-decimal, none-plain, fits-long, long-fits, named-kept, kept-named, plain-kept, kept-plain, decimal-iff}
use Rattle.conversion.proofs.Converted.{kept-sized, kind-converted, head-back, kind-back}

-- ## What came back, by the rules
module _ (named : Bool) (rules : List Rule) (s out₀ : List ℕ) (reply : Reply) (out : List ℕ)
    (is : conversion named rules s out₀ ≡ record { reply = reply; out = out }) where
  pub broken-is : {r : Refusal} → broken rules ≡ First r → (reply ≡ refused r) × (out ≡ out₀)
  unfolding conversion
  broken-is e =
      let o = when-broken rules _ _ is e in
      (ap (λ (x : ConversionOutcome). x.reply) o, ap (λ (x : ConversionOutcome). x.out) o)

  pub kept-is : broken rules ≡ Nothing → (reply ≡ given []) × (out ≡ in_kind named s)
  unfolding conversion
  kept-is e =
      let o = when-kept rules _ _ is e in
      (ap (λ (x : ConversionOutcome). x.reply) o, ap (λ (x : ConversionOutcome). x.out) o)

  -- an answer says that the rules are kept
  pub given-kept : reply ≡ given [] → broken rules ≡ Nothing
  given-kept e = ⊎_elim (λ p. p)
      (λ q. absurd (numbered q.0 (sym (ap (λ (x : Reply). x.refusal) e) ∙ ap (λ (x : Reply). x.refusal) (broken-is q.1).0))) (finding rules)

  -- a refusal about no record says which rule is broken
  pub decimal-refused : (reply ≡ refused NotDecimal) ↔ (broken rules ≡ First NotDecimal)
  decimal-refused =
      let i = refusal-iff rules reply (λ r e. ap (λ (x : Reply). x.refusal) (broken-is e).0) (λ e. ap (λ (x : Reply). x.refusal) (kept-is e).0)
      NotDecimal ((λ e. omega (arith, e)), (λ e. omega (arith, e))) in
      (λ e. i.0 (ap (λ (x : Reply). x.refusal) e), λ e. (broken-is e).0)

  pub conversion-promised : (broken rules ≡ Nothing → (length (in_kind named s) ≡ length out₀) × Converted named s (in_kind named s))
      → ((t : List ℕ) → broken (sheet_rules s) ≡ Nothing → Converted named s t → length out₀ ≡ length t → broken rules ≡ Nothing)
      → ConversionPromise named rules s out₀ reply out
  conversion-promised f g = record {
    refuses = λ r e. broken-is e;
    answers = λ e.
        let k = kept-is e in
        (k.0, ap length k.1 ∙ (f e).0, rw k.1 (f e).1);
    whole = λ t ok c e. (kept-is (g t ok c e)).0;
  }

-- ## What is known where a sheet can be of the wanted kind
converted-length : (named : Bool) (s t : List ℕ) → Converted named s t → length t ≡ encoding_length (of_kind named (header_of s))
converted-length named s t c =
    let k = sheet-kept t c.reads in
    (kept-sized t k.0).long ∙ ap encoding_length (sym k.1)

converted-decimal : (s t : List ℕ) → Converted false s t → named_in_decimal s (header_of s) ≡ true
converted-decimal s t c =
    let head = (sheet-kept t c.reads).1 in
    same-decimal t s (sym c.labels) (ap (λ (h : Header). h.actions) head) (plain-decimal t (header_of t) (sym (ap (λ (h : Header). h.named) head)))

-- ## To named
module _ (s out₀ : List ℕ) (reply : Reply) (out : List ℕ) (small : IsBytes s) (is : to_named_call s out₀ ≡ record { reply = reply; out = out }) where
  named-converted : broken (to_named_rules s out₀) ≡ Nothing → Converted true s (in_kind true s)
  named-converted e = kind-converted true s (named-kept s out₀ e).0 small (λ z. cc)

  named-long : broken (to_named_rules s out₀) ≡ Nothing → length (in_kind true s) ≡ length out₀
  named-long e =
      let k = named-kept s out₀ e in
      kind-length true s (kept-sized s k.0) ∙ sym (fits-long s out₀ true k.1)

  -- the written sheet, of a plain one, comes back
  named_back : broken (to_named_rules s out₀) ≡ Nothing → (header_of s).named ≡ false → (b : List ℕ) → length b ≡ length s
      → to_plain_call (in_kind true s) b ≡ record { reply = given []; out = s }
  unfolding conversion
  named_back e plain b long =
      let t = in_kind true s in
      let ok = (named-kept s out₀ e).0 in
      let c = named-converted e in
      let k = sheet-kept t c.reads in
      let head : of_kind false (header_of t) ≡ header_of s = ap (λ (x : Bool). of_kind x (header_of t)) (sym plain) ∙ head-back true s t ok c in
      let decimal = same-decimal s t c.labels (sym (ap (λ (h : Header). h.actions) k.1)) (plain-decimal s (header_of s) plain) in
      let room = long-fits t b false (long ∙ (kept-sized s ok).long ∙ ap encoding_length (sym head)) in
      let back : in_kind false t ≡ s = ap (λ (x : Bool). in_kind x t) (sym plain) ∙ kind-back true s t ok c small in
      passes (to_plain_rules t b) _ _ (kept-plain t b k.0 decimal room)
      ∙ ap (λ (l : List ℕ). record { reply = given []; out = l }) back

  pub to-named-promised : ToNamedPromise s out₀ reply out
  to-named-promised = record {
    converts = conversion-promised true (to_named_rules s out₀) s out₀ reply out is (λ e. (named-long e, named-converted e))
        (λ t ok c e. kept-named s out₀ ok (long-fits s out₀ true (e ∙ converted-length true s t c)));
    back = λ e plain b long.
        let kept = given-kept true (to_named_rules s out₀) s out₀ reply out is e in
        ap (λ (l : List ℕ). to_plain_call l b) (kept-is true (to_named_rules s out₀) s out₀ reply out is kept).1 ∙ named_back kept plain b long;
  }

-- ## To plain
module _ (s out₀ : List ℕ) (reply : Reply) (out : List ℕ) (small : IsBytes s) (is : to_plain_call s out₀ ≡ record { reply = reply; out = out }) where
  plain-converted : broken (to_plain_rules s out₀) ≡ Nothing → Converted false s (in_kind false s)
  plain-converted e = let k = plain-kept s out₀ e in kind-converted false s k.0 small (λ _. k.1)

  plain-long : broken (to_plain_rules s out₀) ≡ Nothing → length (in_kind false s) ≡ length out₀
  plain-long e =
      let k = plain-kept s out₀ e in
      kind-length false s (kept-sized s k.0) ∙ sym (fits-long s out₀ false k.2)

  -- the written sheet, of a named one, comes back
  plain_back : broken (to_plain_rules s out₀) ≡ Nothing → (header_of s).named ≡ true → (b : List ℕ) → length b ≡ length s
      → to_named_call (in_kind false s) b ≡ record { reply = given []; out = s }
  unfolding conversion
  plain_back e named b long =
      let t = in_kind false s in
      let ok = (plain-kept s out₀ e).0 in
      let c = plain-converted e in
      let k = sheet-kept t c.reads in
      let head : of_kind true (header_of t) ≡ header_of s = ap (λ (x : Bool). of_kind x (header_of t)) (sym named) ∙ head-back false s t ok c in
      let room = long-fits t b true (long ∙ (kept-sized s ok).long ∙ ap encoding_length (sym head)) in
      let back : in_kind true t ≡ s = ap (λ (x : Bool). in_kind x t) (sym named) ∙ kind-back false s t ok c small in
      passes (to_named_rules t b) _ _ (kept-named t b k.0 room)
      ∙ ap (λ (l : List ℕ). record { reply = given []; out = l }) back

  other : reply ≡ refused NotDecimal → (broken (sheet_rules s) ≡ Nothing) × OtherName s
  other e = (decimal-iff s out₀).0 ((decimal-refused false (to_plain_rules s out₀) s out₀ reply out is).0 e)

  pub to-plain-promised : ToPlainPromise s out₀ reply out
  to-plain-promised = record {
    converts = conversion-promised false (to_plain_rules s out₀) s out₀ reply out is (λ e. (plain-long e, plain-converted e))
        (λ t ok c e. kept-plain s out₀ ok (converted-decimal s t c) (long-fits s out₀ false (e ∙ converted-length false s t c)));
    carries = (other, λ k. (decimal-refused false (to_plain_rules s out₀) s out₀ reply out is).1 ((decimal-iff s out₀).1 k));
    none = λ e. none-plain s (other e).1;
    back = λ e named b long.
        let kept = given-kept false (to_plain_rules s out₀) s out₀ reply out is e in
        ap (λ (l : List ℕ). to_named_call l b) (kept-is false (to_plain_rules s out₀) s out₀ reply out is kept).1 ∙ plain_back kept named b long;
  }
