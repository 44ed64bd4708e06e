-- The rules of to named and to plain: when 19 is given, and when all are kept.
use Prim.Native.Nat.{ℕ, suc, ◌<◌}
use native.Mathlib.Omega.{arith}
use mathlib.Core.Path.{◌≡◌, refl, sym, ap, ◌∙◌}
use mathlib.Core.Logic.{⊎_elim, ◌↔◌}
use mathlib.Core.Bool.{Bool, true, false}
use mathlib.Core.List.{List, [], ◌∷◌}
use borrow.Author.Tests.{eq-eqb, eqb-true}
use lib.ListN.{length, get_or}
use Rattle.lts.specs.Labels.{same_label}
use Rattle.lts.specs.declared.Refusal.TheVariants.{NotDecimal, Buffer}
use Rattle.lts.specs.Rule.{◌otherwise◌, Nothing, First, broken}
use Rattle.lts.proofs.Below.{all_of, all-fails, either, clash, T_true}
use Rattle.lts.proofs.Labels.{label-tests}
use Rattle.lts.proofs.Rule.{stop, pass, done, past, never, at_or_after, kept, both-kept, first_part, second-part, finding}
use Rattle.encoding.specs.declared.Header.{Header}
use Rattle.encoding.specs.Records.{header_of, of_kind, encoding_length}
use Rattle.encoding.specs.Labels.{decimal_label, label_in, labels_of}
use Rattle.encoding.specs.Encoding.{headed_rules, sheet_rules}
use Rattle.encoding.proofs.Labels.{plain_label, labels_length_lem, labels_at}
use Rattle.conversion.specs.Conversion.{named_in_decimal, fits, to_named_rules, to_plain_rules, OtherName}
use Rattle.conversion.proofs.InKind.{decimal-each}

-- ## Rule 19
-- each label is its number in decimal: rule 19 is kept
pub decimal-all : (s : List ℕ) (h : Header) → ((i : ℕ) → i < h.actions → label_in s h (suc i) ≡ decimal_label (suc i)) → named_in_decimal s h ≡ true
unfolding named_in_decimal
decimal-all s h each =
    all_of h.actions _
    (λ i l. ap (λ (x : List ℕ). same_label x (decimal_label (suc i))) (each i l) ∙ T_true _ (label-tests.whole (decimal_label (suc i))))

pub plain-decimal : (s : List ℕ) (h : Header) → h.named ≡ false → named_in_decimal s h ≡ true
plain-decimal s h e = decimal-all s h (λ i l. plain_label s h (suc i) e)

-- the labels decide it
pub same-decimal : (s t : List ℕ) → labels_of t ≡ labels_of s → (header_of t).actions ≡ (header_of s).actions
    → named_in_decimal s (header_of s) ≡ true → named_in_decimal t (header_of t) ≡ true
same-decimal s t e n decimal = decimal-all t (header_of t) (λ i l.
    let k : i < (header_of s).actions = omega (arith, l, n) in
    sym (labels_at t (header_of t) i l) ∙ ap (λ (x : List (List ℕ)). get_or x i []) e ∙ labels_at s (header_of s) i k
    ∙ decimal-each s (header_of s) decimal (suc i) (omega arith) k)

-- where it is broken, some name is not its number's digits; and where one is not, it is broken
broken-other : (s : List ℕ) → named_in_decimal s (header_of s) ≡ false → OtherName s
unfolding named_in_decimal
broken-other s e =
    let (i, l, n) = all-fails (header_of s).actions _ e in
    (suc i, omega arith, l, λ q. clash (ap (λ (x : List ℕ). same_label x (decimal_label (suc i))) q ∙ T_true _ (label-tests.whole (decimal_label (suc i)))) n)

other-broken : (s : List ℕ) → OtherName s → named_in_decimal s (header_of s) ≡ false
other-broken s (a, l, u, n) = ⊎_elim (λ t. absurd (n (decimal-each s (header_of s) t a l u))) (λ f. f) (either (named_in_decimal s (header_of s)))

-- no plain sheet has the names of such a sheet
pub none-plain : (s : List ℕ) → OtherName s → (t : List ℕ) → (header_of t).named ≡ false → labels_of t ≡ labels_of s → ⊥
none-plain s other t plain e =
    let n = sym (labels_length_lem t (header_of t)) ∙ ap (λ (l : List (List ℕ)). length l) e ∙ labels_length_lem s (header_of s) in
    clash (same-decimal t s (sym e) (sym n) (plain-decimal t (header_of t) plain)) (other-broken s other)

-- ## The rules
-- a sheet's rules do not give 19
sheet-other : (s : List ℕ) → broken (sheet_rules s) ≡ First NotDecimal → ⊥
unfolding sheet_rules headed_rules
sheet-other s e =
    let e₁ = (past _ _ _ e (λ z. omega (arith, z))).1 in
    let e₂ = (past _ _ _ e₁ (λ z. omega (arith, z))).1 in
    let e₃ = (past _ _ _ e₂ (λ z. omega (arith, z))).1 in
    let e₄ = (past _ _ _ e₃ (λ z. omega (arith, z))).1 in
    let e₅ = (past _ _ _ e₄ (λ z. omega (arith, z))).1 in
    let e₆ = (past _ _ _ e₅ (λ z. omega (arith, z))).1 in
    let e₇ = (past _ _ _ e₆ (λ z. omega (arith, z))).1 in
    let e₈ = (past _ _ _ e₇ (λ z. omega (arith, z))).1 in
    let e₉ = (past _ _ _ e₈ (λ z. omega (arith, z))).1 in
    never e₉

module _ (s out : List ℕ) where
  -- a buffer fits exactly if it has the new length
  pub fits-long : (named : Bool) → fits named s out ≡ true → length out ≡ encoding_length (of_kind named (header_of s))
  unfolding fits
  fits-long named e = eqb-true _ _ e

  pub long-fits : (named : Bool) → length out ≡ encoding_length (of_kind named (header_of s)) → fits named s out ≡ true
  unfolding fits
  long-fits named e = eq-eqb _ _ e

  pub named-kept : broken (to_named_rules s out) ≡ Nothing → (broken (sheet_rules s) ≡ Nothing) × (fits true s out ≡ true)
  unfolding to_named_rules
  named-kept e = let k = both-kept (sheet_rules s) _ e in (k.0, (kept _ _ _ k.1).0)

  pub kept-named : broken (sheet_rules s) ≡ Nothing → fits true s out ≡ true → broken (to_named_rules s out) ≡ Nothing
  unfolding to_named_rules
  kept-named e f = second-part (sheet_rules s) _ e ∙ done (pass _ Buffer [] refl (sym f) refl)

  pub plain-kept : broken (to_plain_rules s out) ≡ Nothing
      → (broken (sheet_rules s) ≡ Nothing) × (named_in_decimal s (header_of s) ≡ true) × (fits false s out ≡ true)
  unfolding to_plain_rules
  plain-kept e =
      let k = both-kept (sheet_rules s) _ e in
      let d = kept _ _ _ k.1 in
      (k.0, d.0, (kept _ _ _ d.1).0)

  pub kept-plain : broken (sheet_rules s) ≡ Nothing → named_in_decimal s (header_of s) ≡ true → fits false s out ≡ true → broken (to_plain_rules s out) ≡ Nothing
  unfolding to_plain_rules
  kept-plain e d f = second-part (sheet_rules s) _ e ∙ done (pass _ Buffer [] (pass _ NotDecimal _ refl (sym d) refl) (sym f) refl)

  -- 19 is the first broken rule exactly where the sheet is read and some name is another
  pub decimal-iff : (broken (to_plain_rules s out) ≡ First NotDecimal) ↔ ((broken (sheet_rules s) ≡ Nothing) × OtherName s)
  unfolding to_plain_rules
  decimal-iff = (
    λ e. ⊎_elim (λ p. (p, broken-other s (at-decimal _ _ (sym (second-part (sheet_rules s) _ p) ∙ e))))
        (λ q. absurd (sheet-other s (q.1 ∙ sym (first_part (sheet_rules s) _ q.1) ∙ e))) (finding (sheet_rules s)),
    λ k. stop _ NotDecimal _ (second-part (sheet_rules s) _ k.0) (sym (other-broken s k.1)) refl,
  )
    where
      at-decimal : (t u : Bool) → broken (t otherwise NotDecimal ∷ u otherwise Buffer ∷ []) ≡ First NotDecimal → t ≡ false
      at-decimal t u e = ⊎_elim (λ a. a.0) (λ b. absurd (never (past u Buffer [] b.1 (λ z. omega (arith, z))).1)) (at_or_after t NotDecimal _ e)
