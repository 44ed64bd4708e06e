use mathlib.Core.Path.{◌≡◌}
use mathlib.Core.Bool.{false}
use Prim.Native.Nat.{ℕ, ◌≤◌, ◌<◌, ◌*◌, ◌-◌}
use Rattle.rows.specs.Rows.{in_row}
use Rattle.rows.proofs.next_state.Given as goal

abbrev pub invariant-loop-q : goal.invariant-loop-q
invariant-loop-q l = (l.from ≤ l.q) × (l.q ≤ l.k * 64) × ((i : ℕ) → l.from ≤ i → i < l.q → in_row l.row i ≡ false)

abbrev pub decreases-loop-q : goal.decreases-loop-q
decreases-loop-q l = l.k * 64 - l.q
