use mathlib.Core.Path.{◌≡◌}
use Rattle.relation.specs.Matrix.{relation_of, matrix_of, rows_of}
use Rattle.sets.specs.Sets.{set_at}
use Rattle.sets.proofs.to_matrix.Given as goal

abbrev pub invariant-loop-p : goal.invariant-loop-p
invariant-loop-p l = l.grid ≡ matrix_of l.n (rows_of l.p (set_at l.list) (relation_of l.n l.initial.grid))
