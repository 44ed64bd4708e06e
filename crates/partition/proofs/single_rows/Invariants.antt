use mathlib.Core.Path.{◌≡◌}
use mathlib.Core.List.{List}
use Prim.Native.Nat.{ℕ, ◌-◌}
use lib.ListN.{length}
use Rattle.rows.specs.Rows.{in_row}
use Rattle.sets.specs.Sets.{set_at}
use Rattle.partition.specs.Pending.{Singles}
use Rattle.partition.proofs.single_rows.Given as goal

-- `out` has states that are alone
abbrev pub Alone : List ℕ → List ℕ → Type 0
Alone blocks out = (length out ≡ 4) × Singles (set_at blocks) (in_row out)

abbrev pub invariant-loop-g : goal.invariant-loop-g
invariant-loop-g l = Alone l.blocks l.out

abbrev pub decreases-loop-g : goal.decreases-loop-g
decreases-loop-g l = 256 - l.g
