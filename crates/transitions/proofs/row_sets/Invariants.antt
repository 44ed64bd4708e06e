use Prim.Native.Nat.{◌-◌}
use Rattle.rows.specs.Rows.{in_row}
use Rattle.transitions.specs.Maps.{goes_to}
use Rattle.transitions.specs.Filling.{Covers}
use Rattle.transitions.specs.Loading.{chain_image}
use Rattle.transitions.proofs.Gathering.{Collecting}
use Rattle.transitions.proofs.row_sets.Given as goal

abbrev pub invariant-loop-p : goal.invariant-loop-p
invariant-loop-p l = Collecting 260 (goes_to l.h.states l.maps l.i) (chain_image l.maps l.s l.h) l.sets l.p × Covers l.used (in_row l.sets)

abbrev pub decreases-loop-p : goal.decreases-loop-p
decreases-loop-p l = 256 - l.p
