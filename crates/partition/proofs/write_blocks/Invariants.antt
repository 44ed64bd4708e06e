use mathlib.Core.Path.{◌≡◌}
use mathlib.Core.Bool.{true, ◌&&◌}
use Prim.Native.Nat.{ℕ, ◌<◌}
use Rattle.lts.specs.Refinement.{block}
use Rattle.rows.specs.Rows.{in_row}
use Rattle.sets.specs.Sets.{set_at, sets_of}
use Rattle.partition.proofs.write_blocks.Given as goal

abbrev pub invariant-loop-p : goal.invariant-loop-p
invariant-loop-p l =
    (l.blocks ≡ sets_of 256 (λ g h. in_row l.written g && block (set_at l.related) g h)) × ((g : ℕ) → g < l.p → in_row l.written g ≡ true)
