use mathlib.Core.Path.{◌≡◌}
use Rattle.relation.specs.Matrix.{relation_of}
use Rattle.rows.proofs.Rows.{picked}
use Rattle.strategy_rounds.specs.Rounds.{same_rows}
use Rattle.strategy_rounds.proofs.same_rows.Given as goal

abbrev pub invariant-loop-p : goal.invariant-loop-p
invariant-loop-p l = l.out ≡ picked (same_rows l.n (relation_of l.n l.before) (relation_of l.n l.after)) l.p
