-- `strategy::check_readable` meets its contract: the check on the table of the sheet.
use Prim.Native.Nat.{ℕ}
use mathlib.Core.Path.{◌∙◌}
use Rattle.lts.specs.System.{Lts}
use Rattle.lts.specs.Strategy.{entries_of}
use Rattle.relation.specs.Matrix.{relation_of}
use Rattle.strategy_check.specs.Entries.{strategy_mark}
use Rattle.strategy.proofs.Loads.{loaded-same, loaded-matrix, loaded-reflexive}
use Rattle.strategy.proofs.check_readable.Goals as goal

pub check_table-requires : goal.check_table-requires
check_table-requires c = (c.load-table.ensures.formed, loaded-matrix c.args.s.now c.args.h c.args.start.now c.requires c.load-table.ensures, loaded-reflexive c.args.s.now c.args.h c.args.start.now c.requires c.load-table.ensures)

pub returns : goal.returns
returns c = c.check_table.ensures
    ∙ loaded-same c.args.s.now c.args.h c.args.start.now c.requires c.load-table.ensures (λ (L : Lts) (n : ℕ). strategy_mark L (relation_of n c.args.start.now) (entries_of c.args.numbers.now))
