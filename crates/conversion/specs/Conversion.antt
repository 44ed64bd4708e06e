-- The calls to named and to plain (document 02, L3): what each replies and leaves in its buffer, and what is promised of it.
use Rattle.std.specs.Prelude.{ℕ, suc, ◌≤◌, ◌≡◌, ◌↔◌, Bool, true, false, List, [], ◌∷◌, ◌++◌, eqb, length, Ok}
use Rattle.lts.specs.Bounded.{all_below}
use Rattle.lts.specs.Labels.{same_label}
use Rattle.lts.specs.declared.Refusal.{Refusal}
use Rattle.lts.specs.declared.Refusal.TheVariants.{NotDecimal, Buffer}
use Rattle.lts.specs.Rule.{Rule, ◌otherwise◌, Nothing, First, broken, checked, Reply, refused, given}
use Rattle.encoding.specs.declared.Header.{Header}
use Rattle.encoding.specs.Records.{header_of, header_bytes, of_kind, encoding_length, system_records}
use Rattle.encoding.specs.Labels.{decimal_label, label_in, labels_of, records_of}
use Rattle.encoding.specs.Encoding.{sheet_rules, read_encoding}
use Rattle.encoding.specs.Denotation.{lts_of}

-- the sheet in the wanted kind: its counts and names, and its page and move records as they are
unfoldable pub in_kind : Bool → List ℕ → List ℕ
in_kind named s =
    let h = header_of s in
    header_bytes (of_kind named h) ++ records_of (record { named = named; labels = labels_of s }) ++ system_records s h

-- rule 19: action j is named by j's decimal digits, for all j
unfoldable pub named_in_decimal : List ℕ → Header → Bool
named_in_decimal s h = all_below h.actions (λ i. same_label (label_in s h (suc i)) (decimal_label (suc i)))

-- rule 15: the buffer has the new length exactly
unfoldable pub fits : Bool → List ℕ → List ℕ → Bool
fits named s out = eqb (length out) (encoding_length (of_kind named (header_of s)))

-- the sheet first (1 to 6, 16, 17), then its names (19), then the buffer (15)
unfoldable pub to_named_rules : List ℕ → List ℕ → List Rule
to_named_rules s out = sheet_rules s ++ fits true s out otherwise Buffer ∷ []

unfoldable pub to_plain_rules : List ℕ → List ℕ → List Rule
to_plain_rules s out = sheet_rules s ++ named_in_decimal s (header_of s) otherwise NotDecimal ∷ fits false s out otherwise Buffer ∷ []

-- the reply, and the lent buffer afterwards
pub record ConversionOutcome : Type 0 where
  pub reply : Reply
  pub out : List ℕ

-- a call that checks the rules and writes the sheet in the wanted kind; a refusal leaves the buffer as it is
unfoldable pub conversion : Bool → List Rule → List ℕ → List ℕ → ConversionOutcome
conversion named rules s out = checked rules (λ r. record { reply = refused r; out = out }) (record { reply = given []; out = in_kind named s })

abbrev pub to_named_call : List ℕ → List ℕ → ConversionOutcome
to_named_call s out = conversion true (to_named_rules s out) s out

abbrev pub to_plain_call : List ℕ → List ℕ → ConversionOutcome
to_plain_call s out = conversion false (to_plain_rules s out) s out

-- out is the sheet s in the wanted kind
pub record Converted (named : Bool) (s out : List ℕ) : Type 0 where
  -- it is read, with the same counts, in the wanted kind
  pub reads : read_encoding out ≡ Ok (of_kind named (header_of s))
  -- it has the same names, and denotes the same flow
  pub labels : labels_of out ≡ labels_of s
  pub same : lts_of out ≡ lts_of s
  -- its page and move records are unchanged, byte for byte
  pub records : system_records out (header_of out) ≡ system_records s (header_of s)
  -- a sheet already of the wanted kind is copied
  pub copied : (header_of s).named ≡ named → out ≡ s

-- What is promised of a conversion, of its reply and of the buffer that was out₀ and is out.
pub record ConversionPromise (named : Bool) (rules : List Rule) (s out₀ : List ℕ) (reply : Reply) (out : List ℕ) : Type 0 where
  -- the refusal of the first broken rule, and the buffer as it was
  pub refuses : (r : Refusal) → broken rules ≡ First r → (reply ≡ refused r) × (out ≡ out₀)
  -- otherwise the buffer, which has the length of the new sheet, holds it
  pub answers : broken rules ≡ Nothing → (reply ≡ given []) × (length out ≡ length out₀) × Converted named s out
  -- a sheet that is read and that can be of the wanted kind is not refused where the buffer has the new length
  pub whole : (t : List ℕ) → broken (sheet_rules s) ≡ Nothing → Converted named s t → length out₀ ≡ length t → reply ≡ given []

-- some action's name is not its number's decimal digits
abbrev pub OtherName : List ℕ → Type 0
OtherName s = (a : ℕ) × (1 ≤ a) × (a ≤ (header_of s).actions) × (label_in s (header_of s) a ≡ decimal_label a → ⊥)

pub record ToNamedPromise (s out₀ : List ℕ) (reply : Reply) (out : List ℕ) : Type 0 where
  pub converts : ConversionPromise true (to_named_rules s out₀) s out₀ reply out
  -- to named and back gives the bytes of a plain sheet, whatever its chain order
  pub back : reply ≡ given [] → (header_of s).named ≡ false → (b : List ℕ) → length b ≡ length s → to_plain_call out b ≡ record { reply = given []; out = s }

pub record ToPlainPromise (s out₀ : List ℕ) (reply : Reply) (out : List ℕ) : Type 0 where
  pub converts : ConversionPromise false (to_plain_rules s out₀) s out₀ reply out
  -- 19 exactly where the sheet is read and some name is not its number's digits; then no plain sheet has these names
  pub carries : (reply ≡ refused NotDecimal) ↔ ((broken (sheet_rules s) ≡ Nothing) × OtherName s)
  pub none : reply ≡ refused NotDecimal → (t : List ℕ) → (header_of t).named ≡ false → labels_of t ≡ labels_of s → ⊥
  -- back and to named gives the bytes of a named sheet
  pub back : reply ≡ given [] → (header_of s).named ≡ true → (b : List ℕ) → length b ≡ length s → to_named_call out b ≡ record { reply = given []; out = s }
