-- `conditions::has_answer` meets its contract: the answer is looked up in the row of the target. Assumes nothing.
use Prim.Native.Nat.{ℕ, ◌*◌, ◌≤◌, ◌<◌}
use mathlib.Core.Path.{◌≡◌, subst⁻¹}
use mathlib.Core.List.{List}
use native.Mathlib.Omega.{arith}
use lib.ListN.{length}
use Rattle.rows.specs.Rows.{row_words}
use Rattle.relation.proofs.Matrices.{row-long}
use Rattle.conditions.proofs.Answers.{answer-row}
use Rattle.conditions.proofs.has_answer.Goals.{After-target}
use Rattle.conditions.proofs.has_answer.Goals as goal

-- what the row of the target asks: the grid's length, at most 256 states, and the target
row : (c : After-target) → let n = c.states-n.result in
    (length c.args.grid.now ≡ n * row_words n) × (n ≤ 256) × (c.target.result < n)
row c =
    let states = c.states-n.ensures.0 in (
      subst⁻¹ (λ (n : ℕ). length c.args.grid.now ≡ n * row_words n) states c.requires.1.long,
      omega (arith, states, c.requires.0.states),
      omega (arith, c.target.ensures.0, states, c.requires.0.target c.args.i c.requires.3),
    )

pub row_at-reached-requires : goal.row_at-reached-requires
row_at-reached-requires c = row c

pub has_into-requires : goal.has_into-requires
has_into-requires c =
    let n = c.states-n.result in
    let r = row (goal.at.has_into-requires c).After-target in
    let long = subst⁻¹ (λ (l : List ℕ). row_words n ≤ length l) c.row_at-reached.ensures (row-long n c.args.grid.now r.2 r.0) in
    (c.requires.0, c.requires.2, omega (arith, long, c.states-n.ensures.0))

pub returns : goal.returns
returns c =
    answer-row c.args.table.now c.args.grid.now c.args.q c.args.i c.states-n.ensures.0 c.action.ensures.0 c.target.ensures.0
    c.row_at-reached.ensures c.has_into.ensures
