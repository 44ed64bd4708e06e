-- `encoding::TransitionRecord::put` meets its contract.
use mathlib.Core.Path.{◌∙◌}
use lib.ListN.{length-set}
use native.Mathlib.Numerals.{add-one, add-two, add-four}
use native.Mathlib.Omega.{arith}
use Rattle.encoding.specs.Records.{transition_bytes, two}
use Rattle.encoding.proofs.TransitionRecord.put.Goals as goal

pub bounds-out-at-2 : goal.bounds-out-at-2
bounds-out-at-2 c = simp length-set (omega arith)

pub put_two-requires : goal.put_two-requires
put_two-requires c = simp length-set (omega arith)

pub put_two-requires-2 : goal.put_two-requires-2
put_two-requires-2 c = let k = simp length-set at c.put_two.auto.out in omega arith

pub shape_of-out : goal.shape_of-out
shape_of-out c = c.put_two-2.auto.out ∙ (c.put_two.auto.out ∙ simp length-set)

pub returns : goal.returns
unfolding transition_bytes two
returns c = rw (c.put_two-2.ensures, c.put_two.ensures, add-one, add-two, add-four)
