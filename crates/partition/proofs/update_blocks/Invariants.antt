use mathlib.Core.Path.{◌≡◌}
use mathlib.Core.List.{List}
use Prim.Native.Nat.{ℕ, ◌-◌}
use lib.ListN.{length}
use Rattle.lts.specs.System.{Set, Rel}
use Rattle.rows.specs.Rows.{in_row, row_of}
use Rattle.sets.specs.Sets.{set_at}
use Rattle.sets.specs.Parts.{Owned}
use Rattle.sets.proofs.Sweep.{Swept}
use Rattle.partition.specs.Pending.{pending_in}
use Rattle.partition.proofs.update_blocks.Given as goal

-- the set is right at x
abbrev pub Right : Set → List ℕ → ℕ → Type 0
Right New pending x = in_row pending x ≡ New x

-- the set is right at the states that are not left
pub record Updated (P : Rel) (New : Set) (pending left : List ℕ) (p : ℕ) : Type 0 where
  pub long : length pending ≡ 4
  pub words : pending ≡ row_of 4 (in_row pending)
  pub owned : Owned P (in_row left)
  pub swept : Swept (Right New pending) (in_row left) p

abbrev pub invariant-loop-p : goal.invariant-loop-p
invariant-loop-p l = Updated (set_at l.blocks) (pending_in 256 (set_at l.related) (set_at l.viewed) (set_at l.blocks)) l.pending l.left l.p

abbrev pub decreases-loop-p : goal.decreases-loop-p
decreases-loop-p l = 256 - l.p
