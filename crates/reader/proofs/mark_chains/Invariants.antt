use Prim.Native.Nat.{◌≤◌, ◌-◌}
use Rattle.encoding.specs.Checked.{Recorded}
use Rattle.reader.proofs.Marks.{Reach}
use Rattle.reader.proofs.mark_chains.Given as goal

abbrev pub invariant-loop-p : goal.invariant-loop-p
invariant-loop-p l = Recorded l.s l.h × Reach l.s l.h l.initial.seen l.seen l.p
