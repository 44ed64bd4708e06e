-- `strategy::write_loaded` meets its contract: writing on the table of the sheet.
use Prim.Native.Nat.{ℕ}
use mathlib.Core.Path.{sym, ◌∙◌}
use native.Mathlib.Omega.{arith}
use Rattle.lts.specs.System.{Lts}
use Rattle.relation.specs.Matrix.{relation_of}
use Rattle.strategy.specs.Steps.{write_on}
use Rattle.strategy.proofs.Loads.{loaded-states, loaded-same, loaded-matrix}
use Rattle.strategy.proofs.write_loaded.Goals as goal

pub write_on_table-requires : goal.write_on_table-requires
write_on_table-requires c = let n = loaded-states c.args.s.now c.args.h c.args.start.now c.requires.0 c.load-table.ensures in
    (c.load-table.ensures.formed, loaded-matrix c.args.s.now c.args.h c.args.start.now c.requires.0 c.load-table.ensures, omega (arith, n, c.requires.1), omega (arith, n, c.requires.2))

pub returns : goal.returns
returns c = sym (loaded-same c.args.s.now c.args.h c.args.start.now c.requires.0 c.load-table.ensures (λ (L : Lts) (n : ℕ). write_on L (relation_of n c.args.start.now) c.args.p c.args.q c.args.numbers.now))
    ∙ c.write_on_table.ensures
