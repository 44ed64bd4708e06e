use Prim.Native.Nat.{ℕ, ◌≤◌, ◌+◌, ◌-◌}
use mathlib.Core.Path.{◌≡◌}
use lib.ListN.{length, get_or}
use Rattle.lts.specs.Bounded.{list_below}
use Rattle.encoding.specs.Records.{transition_record}
use Rattle.encoding.specs.Checked.{Recorded}
use Rattle.reader.specs.Marks.{Counted}
use Rattle.reader.proofs.count_nexts.Given as goal

abbrev pub invariant-loop-i : goal.invariant-loop-i
invariant-loop-i l =
    Recorded l.s l.h × (length l.named ≡ 1025) × ((j : ℕ) → get_or l.initial.named j 0 ≤ 256) × Counted (list_below l.i (λ x. (transition_record l.s l.h (x + 1)).next)) l.initial.named l.named
