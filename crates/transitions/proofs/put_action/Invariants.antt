use Prim.Native.Nat.{◌-◌}
use Rattle.transitions.specs.Filling.{action_set}
use Rattle.transitions.proofs.Filling.{Writing}
use Rattle.transitions.proofs.put_action.Given as goal

abbrev pub invariant-loop-t : goal.invariant-loop-t
invariant-loop-t l = Writing (action_set l.sets l.a) l.p l.a l.from l.initial.table l.at l.t l.table

abbrev pub decreases-loop-t : goal.decreases-loop-t
decreases-loop-t l = 256 - l.t
