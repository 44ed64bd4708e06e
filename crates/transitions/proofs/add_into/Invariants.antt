use mathlib.Core.Path.{◌≡◌}
use Rattle.rows.specs.Rows.{in_row}
use Rattle.rows.proofs.Rows.{gathered}
use Rattle.transitions.proofs.Lookups.{hit}
use Rattle.transitions.proofs.add_into.Given as goal

abbrev pub invariant-loop-i : goal.invariant-loop-i
invariant-loop-i l = l.set ≡ gathered l.initial.set (hit l.table l.a (in_row l.x)) l.i
