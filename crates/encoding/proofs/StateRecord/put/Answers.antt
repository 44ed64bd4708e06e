-- `encoding::StateRecord::put` meets its contract.
use mathlib.Core.Path.{◌∙◌}
use lib.ListN.{length-set}
use native.Mathlib.Numerals.{add-one, add-two}
use native.Mathlib.Omega.{arith}
use Rattle.encoding.specs.Records.{state_bytes}
use Rattle.encoding.proofs.StateRecord.put.Goals as goal

pub bounds-out-at-2 : goal.bounds-out-at-2
bounds-out-at-2 c = simp length-set (omega arith)

pub put_two-requires : goal.put_two-requires
put_two-requires c = simp length-set (omega arith)

pub shape_of-out : goal.shape_of-out
shape_of-out c = c.put_two.auto.out ∙ simp length-set

pub returns : goal.returns
unfolding state_bytes
returns c = c.put_two.ensures ∙ rw (add-one, add-two)
