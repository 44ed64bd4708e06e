use Prim.Native.Nat.{◌≤◌, ◌+◌, ◌*◌, ◌-◌}
use mathlib.Core.Path.{◌≡◌}
use lib.ListN.{length}
use Rattle.encoding.specs.Encoding.{walk, chain, successor}
use Rattle.encoding.specs.Checked.{Recorded}
use Rattle.reader.proofs.Marks.{Rest}
use mathlib.Core.List.{map}
use Rattle.reader.proofs.stamp_chain.Given as goal

abbrev pub invariant-loop : goal.invariant-loop
invariant-loop l =
    Recorded l.s l.h × (l.j ≤ l.h.transitions) × Rest (l.p + 1) l.initial.stamps (map (successor l.s l.h) (chain l.s l.h l.p)) l.stamps (map (successor l.s l.h) (walk l.s l.h (l.end - l.counter) l.j))
    × (length l.stamps ≡ length l.initial.stamps) × (256 * (l.h.actions + 1) ≤ length l.stamps)
