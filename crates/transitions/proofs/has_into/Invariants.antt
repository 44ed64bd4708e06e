use Rattle.rows.specs.Rows.{in_row}
use Rattle.transitions.proofs.Lookups.{Looked}
use Rattle.transitions.proofs.has_into.Given as goal

abbrev pub invariant-loop-i : goal.invariant-loop-i
invariant-loop-i l = Looked l.table l.a (in_row l.x) l.p l.i l.found
