use Rattle.transitions.proofs.Filling.{Emptying}
use Rattle.transitions.proofs.put_row.Given as goal

abbrev pub invariant-loop-i : goal.invariant-loop-i
invariant-loop-i l = Emptying l.initial.held l.used l.p l.from l.initial.table l.i-iterator.left l.at l.table l.held
