use mathlib.Core.Path.{◌≡◌}
use Rattle.transitions.specs.Table.{states_of}
use Rattle.relation.specs.Matrix.{relation_of, matrix_of}
use Rattle.strategy_rounds.proofs.Steps.{kept}
use Rattle.strategy_rounds.proofs.next_round.Given as goal

abbrev pub invariant-loop-i : goal.invariant-loop-i
invariant-loop-i l = l.next ≡ matrix_of (states_of l.table) (kept l.table (relation_of (states_of l.table) l.current) l.i)
