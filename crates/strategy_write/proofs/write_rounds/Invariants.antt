use Rattle.strategy_write.proofs.Progress.{Progress}
use Rattle.strategy_write.proofs.write_rounds.Given as goal

abbrev pub invariant-loop-i : goal.invariant-loop-i
invariant-loop-i l = Progress l.table l.initial.next l.initial.numbers l.i l.current l.next l.at l.numbers l.settled
