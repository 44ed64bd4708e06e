-- `comparison::compare_in` meets its contract: the matrix that is written is the start, and the bit of (0, q) is read from the matrix of the run.
use mathlib.Core.Path.{sym, ◌∙◌}
use native.Mathlib.Omega.{arith}
use Rattle.transitions.specs.Table.{states_of}
use Rattle.transitions.proofs.Entries.{table-formed}
use Rattle.starts.specs.Start.{written_start}
use Rattle.starts.proofs.Starts.{start-preorder}
use Rattle.comparison.proofs.Runs.{size_is, start_is, started-reply, run-reply}
use Rattle.comparison.specs.Call.{compare_reply}
use Rattle.comparison.proofs.compare_in.Goals as goal

pub relate-steps-requires : goal.relate-steps-requires
relate-steps-requires c =
    let ok = c.requires.formed.0 in
    let start = start_is (written_start c.args.ready) c.args.table.now _ c.write_start.ensures (start-preorder c.args.ready _ (table-formed _ ok)) in
    record { formed = (ok, start); fact = (c.requires.fact.1, c.requires.fact.2) }

pub relates-requires : goal.relates-requires
relates-requires c =
    let states = c.states-n.ensures.0 in
    (size_is (sym states) (c.relate-steps.auto.related ∙ c.requires.fact.1), omega (arith, states, c.requires.formed.0.states), omega (arith, states, c.requires.formed.0.some), omega (arith, states, c.requires.formed.1))

pub returns : goal.returns
unfolding compare_reply
returns c =
    let t = c.args.table.now in
    started-reply (written_start c.args.ready) t _ c.write_start.ensures c.args.q
    ∙ run-reply (states_of t) _ c.args.q c.requires.formed.0.some c.requires.formed.1 c.relate-steps.ensures.related_after c.states-n.ensures.0 c.relates.ensures c.relate-steps.ensures.result_value
