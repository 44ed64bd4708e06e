use Prim.Native.Nat.{◌≤◌, ◌-◌}
use Rattle.encoding.specs.Checked.{Recorded}
use Rattle.reader.specs.Marks.{ReachedBelow}
use Rattle.reader.proofs.lowest_unreached.Given as goal

abbrev pub invariant-loop-p : goal.invariant-loop-p
invariant-loop-p l = Recorded l.s l.h × ReachedBelow l.s l.h l.p l.seen
