use mathlib.Core.Path.{◌≡◌}
use lib.ListN.{take}
use Rattle.std.specs.List.{AllWithin}
use Rattle.rows.proofs.lowest_state.Given as goal

abbrev pub invariant-loop-c : goal.invariant-loop-c
invariant-loop-c l = AllWithin (λ x. x ≡ 0) (take l.k l.row) 0 l.c
