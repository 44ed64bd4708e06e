use mathlib.Core.Path.{◌≡◌}
use mathlib.Core.Bool.{◌||◌}
use mathlib.Core.List.{◌++◌}
use lib.ListN.{drop}
use Rattle.rows.specs.Rows.{in_row, row_of}
use Rattle.rows.proofs.row_union.Given as goal

abbrev pub invariant-loop-c : goal.invariant-loop-c
invariant-loop-c l = l.row ≡ row_of l.c (λ q. in_row l.initial.row q || in_row l.mask q) ++ drop l.c l.initial.row
