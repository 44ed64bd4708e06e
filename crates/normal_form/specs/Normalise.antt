-- The call normalise: what it replies and leaves in its buffer (document 01, "The sheet" and the table of refusals; document 02, L2), and what
-- is promised of it.
use Rattle.std.specs.Prelude.{ℕ, ◌≡◌, List, [], ◌∷◌, ◌++◌, length, eqb}
use Rattle.lts.specs.declared.Refusal.{Refusal}
use Rattle.lts.specs.declared.Refusal.TheVariants.{Buffer}
use Rattle.lts.specs.Rule.{Rule, ◌otherwise◌, Nothing, First, broken, checked, Reply, refused, given}
use Rattle.encoding.specs.Records.{header_of}
use Rattle.encoding.specs.Encoding.{sheet_rules}
use Rattle.encoding.specs.Labels.{labelling_of}
use Rattle.encoding.specs.Denotation.{lts_of}
use Rattle.normal_form.specs.Normal.{normal}
use Rattle.normal_form.specs.NormalForm.{NormalForm}

-- the reply, and the lent buffer afterwards
pub record NormaliseOutcome : Type 0 where
  pub reply : Reply
  pub out : List ℕ

-- the sheet first (1 to 6, 16, 17), then the buffer, which has the sheet's own length (15)
unfoldable pub normalise_rules : List ℕ → List ℕ → List Rule
normalise_rules s out = sheet_rules s ++ eqb (length out) (length s) otherwise Buffer ∷ []

-- a refusal leaves the buffer as it is
unfoldable pub normalise_call : List ℕ → List ℕ → NormaliseOutcome
normalise_call s out =
    checked (normalise_rules s out) (λ r. record { reply = refused r; out = out }) (record { reply = given []; out = normal (labelling_of s) (lts_of s) })

-- What is promised of the reply and of the buffer that was out₀ and is out.
pub record NormalisePromise (s out₀ : List ℕ) (reply : Reply) (out : List ℕ) : Type 0 where
  -- the refusal of the first broken rule, and the buffer as it was
  pub refuses : (r : Refusal) → broken (normalise_rules s out₀) ≡ First r → (reply ≡ refused r) × (out ≡ out₀)
  -- otherwise the buffer holds the normal form of the sheet's kind, labels and flow, the only one, with the sheet's own length and header
  pub answers : broken (normalise_rules s out₀) ≡ Nothing
      → (reply ≡ given []) × (length out ≡ length s) × (header_of out ≡ header_of s) × NormalForm (labelling_of s) (lts_of s) out
