use Prim.Native.Nat.{◌≤◌, ◌+◌, ◌-◌}
use lib.ListN.{get_or}
use lib.Dec.{leb}
use Rattle.reader.proofs.Lowest.{NoneBelow}
use Rattle.reader.proofs.lowest_counted_twice.Given as goal

abbrev pub invariant-loop-i : goal.invariant-loop-i
invariant-loop-i l = NoneBelow (λ x. leb 2 (get_or l.named (x + 1) 0)) l.i
