use mathlib.Core.Path.{◌≡◌}
use mathlib.Core.List.{◌++◌}
use lib.ListN.{drop}
use Rattle.rows.specs.Rows.{in_row, row_of}
use Rattle.rows.proofs.row_copy.Given as goal

abbrev pub invariant-loop-c : goal.invariant-loop-c
invariant-loop-c l = l.row ≡ row_of l.c (in_row l.from) ++ drop l.c l.initial.row
