use mathlib.Core.Path.{◌≡◌}
use mathlib.Core.Bool.{true, false}
use mathlib.Core.List.{List}
use Prim.Native.Nat.{ℕ, ◌<◌, ◌≤◌, ◌-◌}
use lib.ListN.{length}
use Rattle.lts.specs.Refinement.{block}
use Rattle.lts.specs.System.{Rel}
use Rattle.rows.specs.Rows.{in_row, row_of, states_below}
use Rattle.sets.specs.Sets.{set_at}
use Rattle.partition.proofs.block_of.Given as goal

-- out has the members below q; what is left is above p, and what has left from q on is no member
pub record Found (K : Rel) (p : ℕ) (out left : List ℕ) (q : ℕ) : Type 0 where
  pub bound : q ≤ 256
  pub members : out ≡ row_of 4 (states_below q (block K p))
  pub long : length left ≡ 4
  pub member : q < 256 → in_row left q ≡ true
  pub above : (y : ℕ) → y < 256 → in_row left y ≡ true → K p y ≡ true
  pub gone : (y : ℕ) → q ≤ y → y < 256 → in_row left y ≡ false → block K p y ≡ false

abbrev pub invariant-loop-q : goal.invariant-loop-q
invariant-loop-q l = Found (set_at l.related) l.p l.out l.left l.q

abbrev pub decreases-loop-q : goal.decreases-loop-q
decreases-loop-q l = 256 - l.q
