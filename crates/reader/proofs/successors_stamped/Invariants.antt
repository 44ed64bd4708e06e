use Prim.Native.Nat.{ℕ, ◌≤◌, ◌-◌, ◌+◌, ◌*◌}
use Rattle.encoding.specs.Checked.{Recorded}
use mathlib.Core.Path.{◌≡◌}
use mathlib.Core.Bool.{true}
use mathlib.Core.List.{map}
use lib.ListN.{get_or, length}
use Rattle.lts.specs.Bounded.{all_below}
use Rattle.encoding.specs.Encoding.{distinct, successor, chain}
use Rattle.reader.proofs.successors_stamped.Given as goal

abbrev pub invariant-loop-p : goal.invariant-loop-p
invariant-loop-p l =
    Recorded l.s l.h × (all_below l.p (λ x. distinct (map (successor l.s l.h) (chain l.s l.h x))) ≡ true) × (256 * (l.h.actions + 1) ≤ length l.stamps) × ((i : ℕ) → get_or l.stamps i 0 ≤ l.p) × (length l.stamps ≡ length l.initial.stamps)
