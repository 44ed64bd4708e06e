use Prim.Native.Nat.{◌≤◌, ◌-◌}
use Rattle.reader.proofs.Labels.{NamedBelow}
use Rattle.reader.proofs.named_fit.Given as goal

abbrev pub invariant-loop-i : goal.invariant-loop-i
invariant-loop-i l = NamedBelow l.s l.h l.i l.index
