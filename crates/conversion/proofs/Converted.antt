-- What a sheet in the wanted kind is: read with the same counts, names and flow; the only sequence of bytes that is; and back again.
use Prim.Native.Nat.{ℕ, ◌≤◌}
use mathlib.Core.Path.{◌≡◌, refl, sym, ap, ap₂, ◌∙◌}
use mathlib.Core.Bool.{Bool, true, false}
use mathlib.Core.List.{List, ◌++◌}
use native.Mathlib.Omega.{arith}
use lib.ListN.{length}
use Rattle.lts.specs.Rule.{Nothing, broken}
use Rattle.encoding.specs.declared.Header.{Header}
use Rattle.encoding.specs.Records.{IsBytes, header_of, header_bytes, of_kind, system_records}
use Rattle.encoding.specs.Labels.{labels_of, records_of}
use Rattle.encoding.specs.Encoding.{sheet_rules, read_encoding}
use Rattle.encoding.specs.Denotation.{lts_of}
use Rattle.encoding.specs.Checked.{Sized}
use Rattle.encoding.proofs.Reader.{kept-readable, sheet-passed, sheet-kept}
use Rattle.encoding.proofs.Parts.{parts-own}
use Rattle.encoding.proofs.Twins.{Twins, twin-lts, twin-labels, twin-broken}
use Rattle.conversion.specs.Conversion.{in_kind, named_in_decimal, Converted}
use Rattle.conversion.proofs.InKind.{kind-header, kind-records, kind-own, named-twins, plain-twins}
use Rattle.std.specs.Prelude.{Ok}

-- a sheet that is read keeps rules 1 and 2
pub kept-sized : (s : List ℕ) → broken (sheet_rules s) ≡ Nothing → Sized s (header_of s)
kept-sized s e = (kept-readable s e).recorded.sized

-- ## The sheet in the wanted kind is converted
module _ (named : Bool) (s : List ℕ) (ok : broken (sheet_rules s) ≡ Nothing) (small : IsBytes s) where
  long : 6 ≤ length s
  long = let l = (kept-sized s ok).long in omega (arith, l)

  pub kind-head : header_of (in_kind named s) ≡ of_kind named (header_of s)
  kind-head = kind-header named s long small

  -- read, where its rules are kept
  reads-kind : broken (sheet_rules (in_kind named s)) ≡ Nothing → read_encoding (in_kind named s) ≡ Ok (of_kind named (header_of s))
  reads-kind e = sym (sheet-passed (in_kind named s) (sym kind-head) e)

  records-kind : system_records (in_kind named s) (header_of (in_kind named s)) ≡ system_records s (header_of s)
  records-kind = ap (system_records (in_kind named s)) kind-head ∙ kind-records named s

  -- of the wanted kind already
  converted-own : (header_of s).named ≡ named → Converted named s (in_kind named s)
  converted-own e =
      let same = kind-own named s (kept-sized s ok) small e in
      record {
        reads = reads-kind (ap (λ (t : List ℕ). broken (sheet_rules t)) same ∙ ok);
        labels = ap labels_of same;
        same = ap lts_of same;
        records = records-kind;
        copied = λ _. same;
      }

  -- a plain sheet made named, and a named one with decimal names made plain
  converted-named : named ≡ true → (header_of s).named ≡ false → Twins s (in_kind named s) → Converted named s (in_kind named s)
  converted-named e plain w = record {
    reads = reads-kind (sym (twin-broken w) ∙ ok);
    labels = sym (twin-labels w);
    same = sym (twin-lts w);
    records = records-kind;
    copied = λ q. cc;
  }

  converted-plain : named ≡ false → (header_of s).named ≡ true → Twins (in_kind named s) s → Converted named s (in_kind named s)
  converted-plain e n w = record {
    reads = reads-kind (twin-broken w ∙ ok);
    labels = twin-labels w;
    same = twin-lts w;
    records = records-kind;
    copied = λ q. cc;
  }

pub kind-converted : (named : Bool) (s : List ℕ) → broken (sheet_rules s) ≡ Nothing → IsBytes s → (named ≡ false → named_in_decimal s (header_of s) ≡ true)
    → Converted named s (in_kind named s)
kind-converted named s ok small decimal = go named (header_of s).named refl decimal
  where
    go : (named kind : Bool) → (header_of s).named ≡ kind → (named ≡ false → named_in_decimal s (header_of s) ≡ true) → Converted named s (in_kind named s)
    go true true e d = converted-own true s ok small e
    go false false e d = converted-own false s ok small e
    go true false e d = converted-named true s ok small refl e (named-twins s e (long true s ok small) small)
    go false true e d = converted-plain false s ok small refl e (plain-twins s e (kept-sized s ok) small (d refl))

-- ## It is the only sequence of bytes that is
pub converted-only : (named : Bool) (s u : List ℕ) → IsBytes u → Converted named s u → u ≡ in_kind named s
unfolding in_kind
converted-only named s u small c =
    let k = sheet-kept u c.reads in
    let head : header_of u ≡ of_kind named (header_of s) = sym k.1 in
    sym (parts-own u (header_of u) (kept-sized u k.0) refl small)
    ∙ ap₂ (λ (g : Header) (r : List ℕ). header_bytes g ++ records_of (record { named = g.named; labels = labels_of u }) ++ r) head c.records
    ∙ ap (λ (l : List (List ℕ)). header_bytes (of_kind named (header_of s)) ++ records_of (record { named = named; labels = l }) ++ system_records s (header_of s))
    c.labels

-- ## Back again
module _ (named : Bool) (s t : List ℕ) (ok : broken (sheet_rules s) ≡ Nothing) (c : Converted named s t) where
  head : header_of t ≡ of_kind named (header_of s)
  head = sym (sheet-kept t c.reads).1

  -- the kind of s again, with the counts of t
  pub head-back : of_kind (header_of s).named (header_of t) ≡ header_of s
  head-back = ap (of_kind (header_of s).named) head

  converted-back : Converted (header_of s).named t s
  converted-back = record {
    reads = sym (sheet-passed s head-back ok);
    labels = sym c.labels;
    same = sym c.same;
    records = sym c.records;
    copied = λ e. sym (c.copied (sym e ∙ ap (λ (g : Header). g.named) head));
  }

  pub kind-back : IsBytes s → in_kind (header_of s).named t ≡ s
  kind-back small = sym (converted-only (header_of s).named t s small converted-back)
