-- Coarsest under the ready start (document 02, L6), of the two calls: it takes the grid that ready start leaves, and the grid that coarsest then
-- leaves holds a pair exactly when some simulation inside the end start that relates only states with the same set of actions holds it.
use Prim.Native.Nat.{ℕ, ◌*◌, ◌<◌}
use mathlib.Core.Path.{◌≡◌, ◌∙◌}
use mathlib.Core.Logic.{◌↔◌}
use mathlib.Core.List.{List}
use lib.Dec.{T}
use lib.ListN.{length}
use Rattle.lts.specs.System.{Rel, WellFormed, within}
use Rattle.lts.specs.Ready.{ready_preorder, ReadySimulation}
use Rattle.lts.specs.Rule.{Nothing, broken, Reply}
use Rattle.lts.proofs.Bounded.{restrict-iff}
use Rattle.lts.proofs.Rule.{both-kept, second-part}
use Rattle.lts.proofs.System.{within-iff}
use Rattle.lts.proofs.Ready.{ready-iff, ready-simulation-iff}
use Rattle.encoding.specs.Records.{header_of}
use Rattle.encoding.specs.Encoding.{sheet_rules}
use Rattle.encoding.specs.Denotation.{lts_of}
use Rattle.encoding.proofs.Reader.{kept-readable, reads}
use Rattle.encoding.proofs.Laws.{denoted}
use Rattle.rows.specs.Rows.{row_words}
use Rattle.relation.specs.Matrix.{relation_of}
use Rattle.inputs.specs.Inputs.{input_rules}
use Rattle.simulation.specs.Calls.{write_start_rules, ReadyStart, WriteStartPromise}
use Rattle.coarsest.specs.Call.{coarsest_rules, grid_relation, CoarsestPromise}
use Rattle.coarsest.proofs.Laws.{fit-rules}

module _ {s grid₀ start : List ℕ} {reply : Reply} (promise : WriteStartPromise ReadyStart s grid₀ reply start)
    (kept : broken (write_start_rules s grid₀) ≡ Nothing) where
  abbrev n : ℕ
  n = (header_of s).states

  readable-sheet : broken (sheet_rules s) ≡ Nothing
  unfolding write_start_rules
  readable-sheet = (both-kept (sheet_rules s) _ kept).0

  formed : WellFormed (lts_of s)
  formed = (denoted s (header_of s) (reads s (header_of s) (kept-readable s readable-sheet))).formed

  is : ReadyStart s start
  is = (promise.answers kept).1

  -- coarsest takes the grid as a start
  pub ready-taken : (grid names : List ℕ) → length grid ≡ n * row_words n → length names ≡ n → broken (coarsest_rules s start grid names) ≡ Nothing
  unfolding input_rules
  ready-taken grid names = fit-rules s start grid names (second-part (sheet_rules s) _ readable-sheet ∙ is.start)

  -- a simulation inside the start is one that L6 speaks of
  within-ready-iff : (S : Rel) → T (within (lts_of s) S (relation_of n start)) ↔ T (within (lts_of s) S (ready_preorder (lts_of s)))
  unfolding lts_of
  within-ready-iff S =
      let here = within-iff (lts_of s) S (relation_of n start) in
      let there = within-iff (lts_of s) S (ready_preorder (lts_of s)) in (
        λ t. there.1 (λ p q lp lq u. (ready-iff (lts_of s) formed p q).1 ((is.holds p q lp lq).0 (here.0 t p q lp lq u))),
        λ t. here.1 (λ p q lp lq u. (is.holds p q lp lq).1 ((ready-iff (lts_of s) formed p q).0 (there.0 t p q lp lq u))),
      )

  pub ready-coarsest : {schedule grid₁ names₁ grid names : List ℕ} {found : Reply} → CoarsestPromise s start schedule grid₁ names₁ found grid names
      → broken (coarsest_rules s start grid₁ names₁) ≡ Nothing
      → (p q : ℕ) → p < n → q < n → T (relation_of n grid p q) ↔ ((S : Rel) × ReadySimulation (lts_of s) S × T (S p q))
  unfolding lts_of
  ready-coarsest {grid = grid} coarsest rules p q lp lq =
      let K = grid_relation s grid in
      let C = (coarsest.answers rules).relation in
      let at = restrict-iff n (relation_of n grid) p q in (
        λ t. (K, (ready-simulation-iff (lts_of s) formed K).0 (C.simulation, (within-ready-iff K).0 C.inside), at.1 (lp, lq, t)),
        λ x.
            let r = (ready-simulation-iff (lts_of s) formed x.0).1 x.1 in
            (at.0 ((within-iff (lts_of s) x.0 K).0 (C.greatest x.0 r.0 ((within-ready-iff x.0).1 r.1)) p q lp lq x.2)).2,
      )
