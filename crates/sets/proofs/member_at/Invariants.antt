use mathlib.Core.Path.{◌≡◌}
use Prim.Native.Nat.{◌+◌, ◌*◌}
use lib.ListN.{length}
use Rattle.lts.specs.Bounded.{passing}
use Rattle.rows.specs.Rows.{in_row}
use Rattle.sets.proofs.member_at.Given as goal

abbrev pub invariant-loop-c : goal.invariant-loop-c
invariant-loop-c l = l.left + length (passing (l.c * 64) (in_row l.a)) ≡ l.j
