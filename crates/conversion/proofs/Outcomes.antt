-- What to named and to plain come to, by what reading and the checks after it answer.
use Prim.Native.Nat.{ℕ}
use mathlib.Core.Path.{◌≡◌, refl, sym, ap, ◌∙◌}
use mathlib.Core.Bool.{Bool, true, false, not}
use mathlib.Core.List.{List, [], ◌∷◌}
use borrow.Author.Tests.{eq-eqb, ne_eqb}
use lib.ListN.{length}
use Rattle.lts.specs.declared.Refusal.{Refusal}
use Rattle.lts.specs.declared.Refusal.TheVariants.{NotDecimal, Buffer}
use Rattle.lts.specs.Rule.{◌otherwise◌, given, checked_reply, Answer}
use Rattle.lts.proofs.Rule.{stop, pass, done, first_part, second-part, refuses, passes, second-checked, passed_on}
use Rattle.encoding.specs.declared.Header.{Header}
use Rattle.encoding.specs.Records.{IsBytes, header_of, of_kind, encoding_length}
use Rattle.encoding.specs.Checked.{Bounds, ReadableAs}
use Rattle.encoding.specs.Encoding.{sheet_rules, read_encoding}
use Rattle.encoding.proofs.Reader.{sheet-broken, sheet-kept}
use Rattle.conversion.specs.Conversion.{in_kind, named_in_decimal, fits, to_named_rules, to_plain_rules, ConversionOutcome, conversion, to_named_call, to_plain_call, ToNamedPromise, ToPlainPromise}
use Rattle.conversion.proofs.Promise.{to-named-promised, to-plain-promised}
use Rattle.std.specs.Prelude.{Ok, Err, IsErrAnd}

-- ## The buffer's rule
-- a header of the wanted kind is in range
pub kind-bounds : {h g : Header} {named : Bool} → Bounds h → g ≡ of_kind named h → Bounds g
kind-bounds b q = rw q (record { state = b.state; states = b.states; actions = b.actions; transitions = b.transitions })

-- what `convert` says of its answer r and of the bytes o that it leaves
abbrev Fills : Bool → List ℕ → List ℕ → Answer (Unit {0}) → List ℕ → Type 0
Fills named s out r o = conversion named (fits named s out otherwise Buffer ∷ []) s out ≡ record { reply = checked_reply r; out = o }

-- a length n of the header g of the wanted kind, as code computes both
module _ {s : List ℕ} {h g : Header} {n : ℕ} (named : Bool) (out : List ℕ) (k : ReadableAs s h) (q : g ≡ of_kind named h) (l : n ≡ encoding_length g) where
  new-length : n ≡ encoding_length (of_kind named (header_of s))
  new-length = l ∙ ap encoding_length (q ∙ ap (of_kind named) k.header)

  pub misfit : (length out ≡ n → ⊥) → Fills named s out (Err Buffer) out
  unfolding fits conversion checked_reply
  misfit d = refuses _ _ _ (stop _ Buffer [] refl (sym (ne_eqb _ _ (λ z. d (z ∙ sym new-length)))) refl)

  pub filled : {o : List ℕ} → length out ≡ n → o ≡ in_kind named s → Fills named s out (Ok tt) o
  unfolding fits conversion checked_reply
  filled d w = passes _ _ _ (done (pass _ Buffer [] refl (sym (eq-eqb _ _ (d ∙ new-length))) refl)) ∙ ap passed (sym w)
    where
      passed : List ℕ → ConversionOutcome
      passed o = record { reply = given []; out = o }

-- ## The calls
-- what each says of its answer r and of the bytes o that it leaves
abbrev MeetsNamed : List ℕ → List ℕ → Answer (Unit {0}) → List ℕ → Type 0
MeetsNamed s out r o = (to_named_call s out ≡ record { reply = checked_reply r; out = o }) × ToNamedPromise s out (checked_reply r) o

abbrev MeetsPlain : List ℕ → List ℕ → Answer (Unit {0}) → List ℕ → Type 0
MeetsPlain s out r o = (to_plain_call s out ≡ record { reply = checked_reply r; out = o }) × ToPlainPromise s out (checked_reply r) o

module _ (s out : List ℕ) (small : IsBytes s) where
  named-meets : (r : Answer (Unit {0})) (o : List ℕ) → to_named_call s out ≡ record { reply = checked_reply r; out = o } → MeetsNamed s out r o
  named-meets r o e = (e, to-named-promised s out _ _ small e)

  plain-meets : (r : Answer (Unit {0})) (o : List ℕ) → to_plain_call s out ≡ record { reply = checked_reply r; out = o } → MeetsPlain s out r o
  plain-meets r o e = (e, to-plain-promised s out _ _ small e)

  -- a sheet that is refused, with the refusal passed on as x
  pub named-stopped : (x : Answer (Unit {0})) {r : Refusal} → read_encoding s ≡ Err r → IsErrAnd x (λ q. q ≡ r) → MeetsNamed s out x out
  unfolding to_named_rules conversion checked_reply
  named-stopped x {r} e q = rw (passed_on x q) (named-meets (Err r) out (refuses (to_named_rules s out) _ _ (first_part (sheet_rules s) _ (sheet-broken s e))))

  pub plain-stopped : (x : Answer (Unit {0})) {r : Refusal} → read_encoding s ≡ Err r → IsErrAnd x (λ q. q ≡ r) → MeetsPlain s out x out
  unfolding to_plain_rules conversion checked_reply
  plain-stopped x {r} e q = rw (passed_on x q) (plain-meets (Err r) out (refuses (to_plain_rules s out) _ _ (first_part (sheet_rules s) _ (sheet-broken s e))))

  -- one that is read
  module _ {h : Header} (e : read_encoding s ≡ Ok h) where
    pub named-filled : (r : Answer (Unit {0})) {o : List ℕ} → Fills true s out r o → MeetsNamed s out r o
    unfolding to_named_rules conversion
    named-filled r {o} w = named-meets r o (second-checked (sheet_rules s) _ _ _ (sheet-kept s e).0 ∙ w)

    -- rule 19 was tested as b
    module _ {b : Bool} (t : b ≡ named_in_decimal s h) where
      decimal : b ≡ named_in_decimal s (header_of s)
      decimal = t ∙ ap (named_in_decimal s) (sheet-kept s e).1

      pub plain_other : not b ≡ true → MeetsPlain s out (Err NotDecimal) out
      unfolding to_plain_rules conversion checked_reply
      plain_other f = plain-meets (Err NotDecimal) out
          (refuses (to_plain_rules s out) _ _ (stop _ NotDecimal _ (second-part (sheet_rules s) _ (sheet-kept s e).0) decimal f))

      pub plain-filled : not b ≡ false → (r : Answer (Unit {0})) {o : List ℕ} → Fills false s out r o → MeetsPlain s out r o
      unfolding to_plain_rules conversion
      plain-filled f r {o} w = plain-meets r o
          (second-checked (sheet_rules s) _ _ _ (sheet-kept s e).0
          ∙ second-checked (named_in_decimal s (header_of s) otherwise NotDecimal ∷ []) _ _ _ (done (pass _ NotDecimal [] refl decimal f)) ∙ w)
