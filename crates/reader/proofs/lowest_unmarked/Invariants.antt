use Prim.Native.Nat.{◌≤◌, ◌+◌, ◌-◌}
use mathlib.Core.Bool.{not}
use lib.ListN.{get_or}
use lib.Dec.{eqb}
use Rattle.reader.proofs.Lowest.{NoneBelow}
use Rattle.reader.proofs.lowest_unmarked.Given as goal

abbrev pub invariant-loop-i : goal.invariant-loop-i
invariant-loop-i l = NoneBelow (λ x. not (eqb (get_or l.seen (x + 1) 0) 1)) l.i
