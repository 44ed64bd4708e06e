-- What compare answers, by what reading its sheets answers.
use Prim.Native.Nat.{ℕ}
use mathlib.Core.Path.{◌≡◌, sym, ap, subst, ◌∙◌}
use mathlib.Core.List.{List}
use Rattle.lts.specs.System.{Rel, Lts}
use Rattle.lts.specs.Union.{comparison, simulated}
use Rattle.lts.specs.declared.Refusal.{Refusal}
use Rattle.lts.specs.Rule.{refused, Answer}
use Rattle.lts.proofs.Rule.{refuses, passes}
use Rattle.encoding.specs.declared.Header.{Header}
use Rattle.encoding.specs.Records.{header_of}
use Rattle.encoding.specs.Denotation.{lts_of}
use Rattle.transitions.specs.Table.{table_lts, Holds}
use Rattle.inputs.specs.Both.{joined_lts, both_rules, read_both, joint_of}
use Rattle.inputs.proofs.Joined.{both-broken, both_read}
use Rattle.comparison.specs.Run.{run_reply, pair_reply}
use Rattle.comparison.specs.Call.{compare_reply, compare_call}
use Rattle.std.specs.Prelude.{Err}
use Rattle.comparison.specs.declared.Comparison.{Comparison}

module _ (start : Lts → Rel) (first second : List ℕ) where
  pub unread : {r : Refusal} → read_both first second ≡ Err r → compare_call start first second ≡ compare_reply (Err r)
  unfolding compare_call compare_reply
  unread e = refuses (both_rules first second) refused _ (both-broken first second e)

  -- of a table of the joined flow
  pub compared : {h g : Header} {m : ℕ} {t : List ℕ} (r : Answer Comparison) → read_both first second ≡ joint_of h g m → Holds (joined_lts first second) t
      → pair_reply start (table_lts t) h.states ≡ compare_reply r → compare_call start first second ≡ compare_reply r
  unfolding compare_call simulated comparison pair_reply run_reply lts_of
  compared {h} {g} {m} {t} r e k f =
      let b = both_read first second e in
      let on-table = subst (λ (x : Header). pair_reply start (table_lts t) x.states ≡ compare_reply r) b.1 f in
      let on-sheets = sym (ap (λ (L : Lts). pair_reply start L (header_of first).states) k.same) ∙ on-table in
      passes (both_rules first second) refused _ b.0 ∙ on-sheets
