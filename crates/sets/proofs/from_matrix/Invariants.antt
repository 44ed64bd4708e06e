use mathlib.Core.Path.{◌≡◌}
use Rattle.rows.specs.Rows.{states_below}
use Rattle.relation.specs.Matrix.{relation_of}
use Rattle.sets.specs.Sets.{sets_of}
use Rattle.sets.proofs.Matrices.{first_rows}
use Rattle.sets.proofs.from_matrix.Given as goal

abbrev pub invariant-loop-p : goal.invariant-loop-p
invariant-loop-p l = l.list ≡ sets_of 256 (first_rows l.p (λ t. states_below l.n (relation_of l.n l.grid t)))
