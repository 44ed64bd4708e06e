use mathlib.Core.Bool.{◌||◌}
use mathlib.Core.List.{List}
use Prim.Native.Nat.{ℕ}
use lib.ListN.{get_or}
use Rattle.lts.specs.System.{Set, Rel}
use Rattle.rows.specs.Rows.{in_row}
use Rattle.sets.specs.Sets.{set_at}
use Rattle.splitting.specs.Split.{Meets}
use Rattle.sets.proofs.Rewritten.{upto, passed}
use Rattle.sets.proofs.Walks.{Part}
use Rattle.splitting.proofs.joined.Given as goal

-- `out` has the blocks of `from`, and of what the word had and is not left
pub record Joining (P : Rel) (c word : ℕ) (from out : List ℕ) (left : ℕ) : Type 0 where
  pub part : Part word left
  pub meets : (W : Set) → Meets P W (in_row from) → Meets P (λ t. W t || passed c word left t) (in_row out)

abbrev pub invariant-loop-c : goal.invariant-loop-c
invariant-loop-c l = Meets (set_at l.blocks) (upto l.set l.c) (in_row l.out)

abbrev pub invariant-loop-left : goal.invariant-loop-left
invariant-loop-left l = Joining (set_at l.blocks) l.c (get_or l.set l.c 0) l.initial.out l.out l.left

abbrev pub decreases-loop-left : goal.decreases-loop-left
decreases-loop-left l = l.left
