use Prim.Native.Nat.{◌≤◌}
use Rattle.encoding.specs.Checked.{Recorded}
use Rattle.reader.proofs.Reaching.{Reaching, unmarked}
use Rattle.reader.proofs.reach_chain.Given as goal

abbrev pub invariant-loop-j : goal.invariant-loop-j
invariant-loop-j l = Recorded l.s l.h × (l.j ≤ l.h.transitions) × Reaching l.s l.h l.p l.seen l.j

abbrev pub decreases-loop-j : goal.decreases-loop-j
decreases-loop-j l = unmarked l.seen
