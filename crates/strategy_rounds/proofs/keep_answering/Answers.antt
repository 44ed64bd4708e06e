-- `strategy_rounds::keep_answering` meets its contract: the states of the set that was gathered are those with an answer. Assumes nothing.
use mathlib.Core.Path.{ap, ap₂, ◌∙◌, subst⁻¹}
use mathlib.Core.List.{List}
use Prim.Native.Nat.{ℕ, ◌*◌, ◌≤◌, ◌<◌}
use native.Mathlib.Omega.{arith}
use lib.ListN.{length, drop}
use Rattle.lts.proofs.Below.{length-list_below}
use Rattle.rows.specs.Rows.{row_words}
use Rattle.transitions.specs.Table.{states_of, source_at, target_at}
use Rattle.relation.proofs.Matrices.{row-long}
use Rattle.strategy_rounds.proofs.Steps.{kept-answers}
use borrow.Author.Rules.{rules}
use Rattle.strategy_rounds.proofs.keep_answering.Goals.{Start}
use Rattle.strategy_rounds.proofs.keep_answering.Goals as goal

-- the states of transition i
source : (c : Start) → source_at c.args.table.now c.args.i < states_of c.args.table.now
source c = c.requires.0.source c.args.i c.requires.3

target : (c : Start) → target_at c.args.table.now c.args.i < states_of c.args.table.now
target c = c.requires.0.target c.args.i c.requires.3

pub row_at-reached-requires : goal.row_at-reached-requires
row_at-reached-requires c = rw (c.states-n.ensures.0, c.target.ensures.0) (c.requires.1.long, c.requires.0.states, target (goal.at.row_at-reached-requires c).Start)

pub add_into-requires : goal.add_into-requires
add_into-requires c = let t = c.args.table.now in
    let row = c.row_at-reached.ensures ∙ ap₂ (λ (r n : ℕ). drop (r * row_words n) c.args.current.now) c.target.ensures.0 c.states-n.ensures.0 in
    (c.requires.0, subst⁻¹ (λ (l : List ℕ). row_words (states_of t) ≤ length l) row (row-long (states_of t) c.args.current.now (target (goal.at.add_into-requires c).Start) c.requires.1.long), search rules)

pub keep_states-requires : goal.keep_states-requires
keep_states-requires c = let set = c.add_into.ensures in
    rw (c.states-n.ensures.0, c.source.ensures.0) (c.requires.2, c.requires.0.states, source (goal.at.keep_states-requires c).Start, omega (arith, ap length set ∙ length-list_below 4 _, c.requires.0.states))

pub returns : goal.returns
returns c = kept-answers c.args.table.now c.requires.0 c.args.current.now c.args.next.now c.args.i c.states-n.ensures.0 c.source.ensures.0 c.action.ensures.0 c.target.ensures.0
    c.row_at-reached.ensures c.add_into.ensures c.keep_states.ensures
