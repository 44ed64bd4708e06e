-- What is promised of join follows from the call's equation.
use Prim.Native.Nat.{ℕ, ◌≤◌}
use native.Mathlib.Omega.{arith}
use mathlib.Core.Path.{◌≡◌, sym, ap, subst, subst₂, ◌∙◌}
use mathlib.Core.Bool.{cond, ◌||◌}
use mathlib.Core.List.{List, [], ◌∷◌, ◌++◌}
use borrow.Author.Tests.{leb-true}
use lib.Dec.{leb}
use lib.ListN.{length, take, drop, length-append, length-drop}
use lib.Seq.{take-append_seam, drop-append_seam}
use Rattle.lts.specs.System.{Rel, Lts}
use Rattle.lts.specs.Refinement.{coarsest}
use Rattle.lts.specs.Union.{comparison, simulated}
use Rattle.lts.specs.Labels.{joined_labels, JoinedByLabel}
use Rattle.lts.specs.declared.Refusal.{Refusal}
use Rattle.lts.specs.declared.Refusal.TheVariants.{Buffer}
use Rattle.lts.specs.Rule.{Nothing, First, broken, Reply, refused, given}
use Rattle.lts.proofs.Rule.{kept, both-kept, passes, when-broken, when-kept}
use Rattle.encoding.specs.Records.{header_of}
use Rattle.encoding.specs.Labels.{Labelling, labels_of}
use Rattle.encoding.specs.Denotation.{lts_of}
use Rattle.inputs.specs.Both.{joined_lts, both_rules}
use Rattle.inputs.proofs.Joined.{both-joinable}
use Rattle.normal_form.specs.NormalForm.{NormalForm}
use Rattle.normal_form.proofs.Laws.{normal-form}
use Rattle.comparison.specs.Call.{compare_call}
use Rattle.disjoint_union.specs.Join.{JoinOutcome, joined_labelling, joined_sheet, join_rules, join_call, Joins, JoinPromise}
use Rattle.disjoint_union.proofs.Union.{joined-encodable, joined-named}

module _ (first second out₀ : List ℕ) where
  -- the reply of compare, on a sheet that denotes the joined flow
  abbrev reply-on : (Lts → Rel) → Lts → Reply
  reply-on start L = let r = coarsest L (start L) [] in given (cond (r.final.related 0 (header_of first).states) 1 0 ∷ r.steps ∷ [])

  module _ (e : broken (join_rules first second out₀) ≡ Nothing) where
    both : broken (both_rules first second) ≡ Nothing
    unfolding join_rules
    both = (both-kept (both_rules first second) _ e).0

    roomy : length (joined_sheet first second) ≤ length out₀
    unfolding join_rules
    roomy = leb-true _ _ (kept (leb (length (joined_sheet first second)) (length out₀)) Buffer [] (both-kept (both_rules first second) _ e).1).0

    pub sheet-normal : NormalForm (joined_labelling first second) (joined_lts first second) (joined_sheet first second)
    sheet-normal = normal-form (joined_labelling first second) (joined_lts first second) (joined-encodable (both-joinable first second both))

    -- the sheet's kind and labels
    kind : (header_of (joined_sheet first second)).named ≡ ((header_of first).named || (header_of second).named)
    unfolding joined_labelling
    kind = ap (λ (K : Labelling). K.named) sheet-normal.labelling

    labels : labels_of (joined_sheet first second) ≡ joined_labels (labels_of first) (labels_of second)
    unfolding joined_labelling
    labels = ap (λ (K : Labelling). K.labels) sheet-normal.labelling

    named : JoinedByLabel (labels_of first) (lts_of first) (labels_of second) (lts_of second) (labels_of (joined_sheet first second)) (lts_of (joined_sheet first second))
    named = subst₂ (JoinedByLabel (labels_of first) (lts_of first) (labels_of second) (lts_of second)) (sym labels) (sym sheet-normal.same)
        (joined-named (both-joinable first second both))

    compared : (start : Lts → Rel) → compare_call start first second ≡ reply-on start (joined_lts first second)
    unfolding compare_call simulated comparison lts_of
    compared start = passes (both_rules first second) _ _ both

    joins : {reply : Reply} {out : List ℕ} → reply ≡ given (length (joined_sheet first second) ∷ [])
        → out ≡ joined_sheet first second ++ drop (length (joined_sheet first second)) out₀
        → Joins first second out₀ reply out (length (joined_sheet first second))
    joins {reply} {out} r o =
        let bytes = joined_sheet first second in
        let front : take (length bytes) out ≡ bytes = ap (take (length bytes)) o ∙ take-append_seam bytes _ in
        let long : length out ≡ length out₀ = ap length o ∙ length-append bytes _ ∙ omega (arith, roomy, length-drop (length bytes) out₀) in
        record {
          replied = r;
          room = omega (arith, roomy, long);
          stays = ap (drop (length bytes)) o ∙ drop-append_seam bytes _;
          long = long;
          written = subst (NormalForm (joined_labelling first second) (joined_lts first second)) (sym front) sheet-normal;
          kind = ap (λ (t : List ℕ). (header_of t).named) front ∙ kind;
          joined = subst (λ (t : List ℕ). JoinedByLabel (labels_of first) (lts_of first) (labels_of second) (lts_of second) (labels_of t) (lts_of t)) (sym front) named;
          compares = λ start. compared start ∙ ap (reply-on start) (sym sheet-normal.same ∙ ap lts_of (sym front));
        }

  module _ {reply : Reply} {out : List ℕ} (is : join_call first second out₀ ≡ record { reply = reply; out = out }) where
    broken-is : {r : Refusal} → broken (join_rules first second out₀) ≡ First r
        → ◌≡◌ {A = JoinOutcome} (record { reply = reply; out = out }) (record { reply = refused r; out = out₀ })
    unfolding join_call
    broken-is e = when-broken (join_rules first second out₀) _ _ is e

    kept-is : broken (join_rules first second out₀) ≡ Nothing
        → ◌≡◌ {A = JoinOutcome} (record { reply = reply; out = out })
        (record {
          reply = given (length (joined_sheet first second) ∷ []);
          out = joined_sheet first second ++ drop (length (joined_sheet first second)) out₀;
        })
    unfolding join_call
    kept-is e = when-kept (join_rules first second out₀) _ _ is e

    pub promised : JoinPromise first second out₀ reply out
    promised = record {
      refuses = λ r e. (ap (λ (o : JoinOutcome). o.reply) (broken-is e), ap (λ (o : JoinOutcome). o.out) (broken-is e));
      answers = λ e.
          (length (joined_sheet first second), joins e (ap (λ (o : JoinOutcome). o.reply) (kept-is e)) (ap (λ (o : JoinOutcome). o.out) (kept-is e)));
    }
