use Prim.Native.Nat.{◌≤◌, ◌-◌}
use Rattle.encoding.specs.Encoding.{walk, chain}
use Rattle.encoding.specs.Checked.{Recorded}
use Rattle.reader.proofs.Marks.{Rest}
use Rattle.reader.proofs.mark_chain.Given as goal

abbrev pub invariant-loop : goal.invariant-loop
invariant-loop l =
    Recorded l.s l.h × (l.j ≤ l.h.transitions) × Rest 1 l.initial.seen (chain l.s l.h l.p) l.seen (walk l.s l.h (l.end - l.counter) l.j)
