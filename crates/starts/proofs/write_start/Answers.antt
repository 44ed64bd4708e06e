-- `starts::write_start` meets its contract: by which start is asked for.
use mathlib.Core.Path.{◌∙◌, sym, ap}
use mathlib.Core.Bool.{Bool}
use Rattle.relation.specs.Matrix.{matrix_of}
use Rattle.transitions.specs.Table.{states_of, table_lts}
use Rattle.starts.specs.Start.{written_start}
use Rattle.starts.proofs.write_start.Goals as goal

pub returns-then-ready : goal.returns-then-ready
unfolding written_start
returns-then-ready c =
    let t = c.args.table.now in
    c.write_ready.ensures ∙ ap (λ (b : Bool). matrix_of (states_of t) (written_start b (table_lts t))) (sym c.if-ready.true)

pub returns-else-ready : goal.returns-else-ready
unfolding written_start
returns-else-ready c =
    let t = c.args.table.now in
    c.write_end.ensures ∙ ap (λ (b : Bool). matrix_of (states_of t) (written_start b (table_lts t))) (sym c.if-ready.false)
