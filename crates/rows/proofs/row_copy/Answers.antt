-- `rows::row_copy` meets its contract, by `row_more`. Assumes nothing.
use borrow.Author.Rules.{rules}
use mathlib.Core.Path.{sym}
use native.Mathlib.Omega.{arith}
use Rattle.lts.specs.Bounded.{list_below}
use Rattle.rows.proofs.Rows.{in_row-at, row_more}
use Rattle.rows.proofs.row_copy.Goals as goal

pub loop-c-init : goal.loop-c-init
unfolding list_below
loop-c-init c = search rules

pub loop-c-preserved : goal.loop-c-preserved
loop-c-preserved c =
    let j = c.loop-c.c in row_more _ _ _ j c.loop-c.invariant (omega arith) (search rules) (λ i l. sym (in_row-at c.args.«from».now j i l))
