use mathlib.Core.Path.{◌≡◌}
use mathlib.Core.Bool.{true, cond}
use Prim.Native.Nat.{◌<◌, ◌-◌}
use Rattle.rows.specs.Rows.{in_row}
use Rattle.relation.specs.Matrix.{relation_of, matrix_of, rows_of}
use Rattle.relation.proofs.set_rows.Given as goal

abbrev pub invariant-loop-p : goal.invariant-loop-p
invariant-loop-p l =
    (l.p < l.n → in_row l.members l.p ≡ true) × (l.grid ≡ matrix_of l.n (rows_of l.p (λ p q. cond (in_row l.members p) (in_row l.row q) (relation_of l.n l.initial.grid p q)) (relation_of l.n l.initial.grid)))

abbrev pub decreases-loop-p : goal.decreases-loop-p
decreases-loop-p l = l.n - l.p
