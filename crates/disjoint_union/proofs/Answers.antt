-- What join answers, by what reading its sheets answers and by the length of the buffer.
use Prim.Native.Nat.{ℕ, ◌≤◌, ◌<◌}
use mathlib.Core.Path.{◌≡◌, refl, sym, ap, ap₂, ◌∙◌}
use mathlib.Core.Bool.{Bool}
use mathlib.Core.List.{List, [], ◌∷◌, ◌++◌}
use borrow.Author.Tests.{le-leb, lt-leb}
use lib.Dec.{leb}
use lib.ListN.{length, drop}
use Rattle.lts.specs.System.{Lts}
use Rattle.lts.specs.declared.Refusal.{Refusal}
use Rattle.lts.specs.declared.Refusal.TheVariants.{Buffer}
use Rattle.lts.specs.Rule.{◌otherwise◌, First, broken, Answer}
use Rattle.lts.proofs.Rule.{stop, pass, done, first_part, second-part, refuses, passes}
use Rattle.encoding.specs.Labels.{records_of}
use Rattle.encoding.specs.declared.Header.{Header}
use Rattle.encoding.specs.Records.{encoding_length}
use Rattle.transitions.specs.Table.{table_lts, Holds}
use Rattle.inputs.specs.Both.{joined_lts, both_rules, read_both, joint_of}
use Rattle.inputs.proofs.Joined.{both-broken, both_read, both-joinable}
use Rattle.normal_form.specs.Normal.{normal_header, sheet_bytes, normal}
use Rattle.normal_form.proofs.Labelled.{normal-length}
use Rattle.disjoint_union.specs.Join.{join_reply, joined_labelling, joined_sheet, join_rules, join_call, JoinPromise}
use Rattle.disjoint_union.proofs.Union.{joined-encodable}
use Rattle.disjoint_union.proofs.Promise.{promised}
use Rattle.std.specs.Prelude.{Ok, Err}

-- what `join` says of its answer r and of the buffer o that it leaves
abbrev Meets : List ℕ → List ℕ → List ℕ → Answer ℕ → List ℕ → Type 0
Meets first second out r o =
    (join_call first second out ≡ record { reply = join_reply r; out = o }) × JoinPromise first second out (join_reply r) o

module _ (first second out : List ℕ) where
  meets : (r : Answer ℕ) (o : List ℕ) → join_call first second out ≡ record { reply = join_reply r; out = o } → Meets first second out r o
  meets r o e = (e, promised first second out e)

  refusing : {r : Refusal} → broken (join_rules first second out) ≡ First r → Meets first second out (Err r) out
  unfolding join_call join_reply
  refusing {r} e = meets (Err r) out (refuses (join_rules first second out) _ _ e)

  pub unread : {r : Refusal} → read_both first second ≡ Err r → Meets first second out (Err r) out
  unfolding join_rules
  unread e = refusing (first_part (both_rules first second) _ (both-broken first second e))

  -- of a table of the joined flow, with its kind and the bytes of its label records
  module _ {h g : Header} {m : ℕ} {t : List ℕ} {named : Bool} (e : read_both first second ≡ joint_of h g m) (k : Holds (joined_lts first second) t)
      (kind : named ≡ (joined_labelling first second).named) {len : ℕ} (is : len ≡ encoding_length (normal_header named (table_lts t))) where
    length-is : len ≡ length (joined_sheet first second)
    length-is = is ∙ ap₂ (λ (b : Bool) (L : Lts). encoding_length (normal_header b L)) kind k.same
        ∙ sym (normal-length (joined_labelling first second) (joined_lts first second)
        (joined-encodable (both-joinable first second (both_read first second e).0)).labelled)

    -- what is left of the rules
    left : broken (join_rules first second out) ≡ broken (leb (length (joined_sheet first second)) (length out) otherwise Buffer ∷ [])
    unfolding join_rules
    left = second-part (both_rules first second) _ (both_read first second e).0

    pub short : length out < len → Meets first second out (Err Buffer) out
    short l = refusing (stop _ Buffer [] left (sym (lt-leb _ (length out) (rw length-is at l))) refl)

    pub written : (records : List ℕ) {o : List ℕ} → len ≤ length out → records ≡ records_of (joined_labelling first second)
        → o ≡ sheet_bytes named records (table_lts t) ++ drop (length (sheet_bytes named records (table_lts t))) out → Meets first second out (Ok len) o
    unfolding join_call join_reply normal
    written records {o} l r w =
        let kept = done (pass _ Buffer [] left (sym (le-leb _ (length out) (rw length-is at l))) refl) in
        let bytes : sheet_bytes named records (table_lts t) ≡ joined_sheet first second =
        ap₂ (λ (b : Bool) (x : List ℕ). sheet_bytes b x (table_lts t)) kind r
        ∙ ap (λ (L : Lts). sheet_bytes (joined_labelling first second).named (records_of (joined_labelling first second)) L) k.same in
        let all : o ≡ joined_sheet first second ++ drop (length (joined_sheet first second)) out =
        w ∙ ap (λ (x : List ℕ). x ++ drop (length x) out) bytes in
        meets (Ok len) o (rw (length-is, all) (passes (join_rules first second out) _ _ kept))
