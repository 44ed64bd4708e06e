use Prim.Native.Nat.{ℕ, ◌≤◌, ◌-◌}
use mathlib.Core.Path.{◌≡◌}
use lib.ListN.{length, get_or}
use Rattle.lts.specs.Bounded.{list_below}
use Rattle.encoding.specs.Records.{state_record}
use Rattle.encoding.specs.Checked.{Recorded}
use Rattle.reader.specs.Marks.{Counted}
use Rattle.reader.proofs.count_firsts.Given as goal

abbrev pub invariant-loop-p : goal.invariant-loop-p
invariant-loop-p l =
    Recorded l.s l.h × (length l.named ≡ 1025) × ((j : ℕ) → get_or l.initial.named j 0 ≤ 256) × Counted (list_below l.p (λ q. (state_record l.s l.h q).first)) l.initial.named l.named
