-- `simulation::write_loaded` meets its contract: the table's system is the encoding's. Assumes nothing.
use Prim.Native.Nat.{ℕ, ◌*◌}
use mathlib.Core.Path.{sym, ap, ◌∙◌}
use Rattle.rows.specs.Rows.{row_words}
use Rattle.transitions.proofs.Filled.{sheet-states}
use Rattle.starts.specs.Start.{written_start}
use Rattle.simulation.proofs.CallLaws.{start-table}
use Rattle.simulation.proofs.write_loaded.Goals as goal

pub write_start-requires : goal.write_start-requires
write_start-requires c =
    (c.load-table.ensures.formed, c.requires.1 ∙ ap (λ (n : ℕ). n * row_words n) (sym (sheet-states c.args.s.now c.args.h c.requires.0 c.load-table.ensures)))

pub returns : goal.returns
returns c =
    start-table c.args.s.now c.args.h c.requires.0 c.load-table.ensures (written_start c.args.ready) c.write_start.ensures
