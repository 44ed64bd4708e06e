-- `rows::row_minus` meets its contract, by `zip_more`. Assumes nothing.
use borrow.Author.Rules.{rules}
use native.Mathlib.Omega.{arith}
use Rattle.lts.specs.Bounded.{list_below}
use Rattle.rows.proofs.Rows.{zip_more, minus-bitwise}
use Rattle.rows.proofs.row_minus.Goals as goal

pub loop-c-init : goal.loop-c-init
unfolding list_below
loop-c-init c = search rules

pub loop-c-preserved : goal.loop-c-preserved
loop-c-preserved c =
    let j = c.loop-c.c in
    zip_more _ _ minus-bitwise c.args.row.now c.args.mask.now c.loop-c.row j c.loop-c.invariant (omega arith) (search rules) (search rules)
