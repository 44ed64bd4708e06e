-- The call join: what it replies and leaves in its buffer, and what is promised of it (document 02, L2: actions matched by name).
use Rattle.std.specs.Prelude.{ℕ, ◌≤◌, ◌≡◌, cond, ◌||◌, List, [], ◌∷◌, ◌++◌, leb, length, take, drop, Ok, Err}
use Rattle.lts.specs.System.{Rel, Lts}
use Rattle.lts.specs.Refinement.{coarsest}
use Rattle.lts.specs.Labels.{joined_labels, JoinedByLabel}
use Rattle.lts.specs.declared.Refusal.{Refusal}
use Rattle.lts.specs.declared.Refusal.TheVariants.{Buffer}
use Rattle.lts.specs.Rule.{Rule, ◌otherwise◌, Nothing, First, broken, checked, Reply, refused, given, Answer}
use Rattle.encoding.specs.Records.{header_of}
use Rattle.encoding.specs.Labels.{Labelling, labels_of}
use Rattle.encoding.specs.Denotation.{lts_of}
use Rattle.inputs.specs.Both.{joined_lts, both_rules}
use Rattle.normal_form.specs.Normal.{normal}
use Rattle.normal_form.specs.NormalForm.{NormalForm}
use Rattle.comparison.specs.Call.{compare_call}

-- the reply of each answer: the length written
unfoldable pub join_reply : Answer ℕ → Reply
join_reply (Ok n) = given (n ∷ [])
join_reply (Err r) = refused r

-- the reply, and the lent buffer afterwards
pub record JoinOutcome : Type 0 where
  pub reply : Reply
  pub out : List ℕ

-- the kind and labels of the joined flow: plain where both sheets are, otherwise named; and the sheet that is written
unfoldable pub joined_labelling : List ℕ → List ℕ → Labelling
joined_labelling first second = record {
  named = (header_of first).named || (header_of second).named;
  labels = joined_labels (labels_of first) (labels_of second);
}

abbrev pub joined_sheet : List ℕ → List ℕ → List ℕ
joined_sheet first second = normal (joined_labelling first second) (joined_lts first second)

-- both sheets and the joined flow as for compare (1 to 7, 18), then the buffer, which is at least as long as the sheet that is written (15)
unfoldable pub join_rules : List ℕ → List ℕ → List ℕ → List Rule
join_rules first second out = both_rules first second ++ leb (length (joined_sheet first second)) (length out) otherwise Buffer ∷ []

-- a refusal leaves the buffer as it is, and what is past the written end stays
unfoldable pub join_call : List ℕ → List ℕ → List ℕ → JoinOutcome
join_call first second out =
    let bytes = joined_sheet first second in
    checked (join_rules first second out)
    (λ r. record { reply = refused r; out = out })
    (record { reply = given (length bytes ∷ []); out = bytes ++ drop (length bytes) out })

-- The first `len` bytes of the buffer, which was out₀ and is out, are the joined flow as a normal sheet.
pub record Joins (first second out₀ : List ℕ) (reply : Reply) (out : List ℕ) (len : ℕ) : Type 0 where
  pub replied : reply ≡ given (len ∷ [])
  -- what is past them stays
  pub room : len ≤ length out
  pub stays : drop len out ≡ drop len out₀
  pub long : length out ≡ length out₀
  -- they are read as the joined flow with its kind and labels, in normal form, and no other bytes are
  pub written : NormalForm (joined_labelling first second) (joined_lts first second) (take len out)
  -- the sheet is plain exactly if both sheets are, and is, with its labels, their joined flow by name
  pub kind : (header_of (take len out)).named ≡ ((header_of first).named || (header_of second).named)
  pub joined : JoinedByLabel (labels_of first) (lts_of first) (labels_of second) (lts_of second) (labels_of (take len out)) (lts_of (take len out))
  -- coarsest on them, from their end start and with an empty turn list, keeps (0, n), n the first sheet's states, exactly if compare says
  -- yes, with the same turns; from their ready start, exactly if its ready form does; and so from any start that both begin with
  pub compares : (start : Lts → Rel) → let L = lts_of (take len out) in let r = coarsest L (start L) [] in
      compare_call start first second ≡ given (cond (r.final.related 0 (header_of first).states) 1 0 ∷ r.steps ∷ [])

-- What is promised of the reply and of the buffer that was out₀ and is out.
pub record JoinPromise (first second out₀ : List ℕ) (reply : Reply) (out : List ℕ) : Type 0 where
  -- the refusal of the first broken rule, and the buffer as it was
  pub refuses : (r : Refusal) → broken (join_rules first second out₀) ≡ First r → (reply ≡ refused r) × (out ≡ out₀)
  -- otherwise the joined flow is written
  pub answers : broken (join_rules first second out₀) ≡ Nothing → (len : ℕ) × Joins first second out₀ reply out len
