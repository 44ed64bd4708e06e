use Rattle.transitions.specs.Table.{states_of, table_lts}
use Rattle.relation.specs.Matrix.{relation_of}
use Rattle.strategy_check.proofs.Checks.{Checking}
use Rattle.strategy_check.proofs.check_table.Given as goal

abbrev pub invariant-loop-e : goal.invariant-loop-e
invariant-loop-e l = Checking (table_lts l.table) (relation_of (states_of l.table) l.start) l.numbers l.e l.marks l.last
