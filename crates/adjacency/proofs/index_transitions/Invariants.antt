use Rattle.adjacency.specs.Building.{Building}
use Rattle.adjacency.proofs.index_transitions.Given as goal

abbrev pub invariant-loop-i : goal.invariant-loop-i
invariant-loop-i l = Building l.table l.i l.places l.rows
