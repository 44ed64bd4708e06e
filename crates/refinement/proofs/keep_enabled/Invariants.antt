use mathlib.Core.Path.{◌≡◌}
use Rattle.sets.specs.Sets.{set_at, sets_of}
use Rattle.refinement.proofs.Beginning.{kept_below}
use Rattle.refinement.proofs.keep_enabled.Given as goal

abbrev pub invariant-loop-i : goal.invariant-loop-i
invariant-loop-i l = (l.related ≡ sets_of 256 (kept_below l.table l.rows (set_at l.initial.related) l.i))
