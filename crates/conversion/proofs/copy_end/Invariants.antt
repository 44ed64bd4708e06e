use Prim.Native.Nat.{◌-◌}
use mathlib.Core.Path.{◌≡◌}
use lib.ListN.{length, drop}
use lib.Seq.{paste}
use Rattle.conversion.proofs.copy_end.Given as goal

abbrev pub invariant-loop-left : goal.invariant-loop-left
invariant-loop-left l =
    l.out ≡ paste l.initial.out (length l.initial.out - l.size) (drop (length l.s - l.size) l.s) (l.size - l.left)
