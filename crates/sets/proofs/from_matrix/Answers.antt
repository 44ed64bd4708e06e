-- `sets::from_matrix` meets its contract. Assumes nothing.
use mathlib.Core.Path.{sym, ◌∙◌}
use native.Mathlib.Omega.{arith}
use Rattle.sets.proofs.Lists.{sets-long}
use Rattle.sets.proofs.Matrices.{rows_none, rows-put, rows_whole}
use borrow.Author.Rules.{rules}
use Rattle.sets.proofs.from_matrix.Goals as goal

pub loop-p-init : goal.loop-p-init
loop-p-init c = c.requires.2 ∙ rows_none _

pub put-requires : goal.put-requires
put-requires c = omega (arith, sets-long 256 _ c.loop-p.invariant)

pub loop-p-preserved : goal.loop-p-preserved
loop-p-preserved c = rows-put _ c.loop-p.p c.loop-p.list _ c.loop-p.invariant c.row_set.ensures c.put.ensures

pub shape_of-list : goal.shape_of-list
shape_of-list c = sets-long 256 _ c.loop-p.invariant ∙ sym (sets-long 256 _ c.requires.2)

pub returns : goal.returns
returns c = c.loop-p.invariant ∙ rows_whole _ _ _ (search rules)
