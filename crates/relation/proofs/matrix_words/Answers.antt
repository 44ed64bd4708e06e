-- `relation::matrix_words` meets its contract: by `matrix-small`. Assumes nothing.
use mathlib.Core.Path.{◌≡◌, ap}
use Prim.Native.Nat.{ℕ, ◌*◌}
use native.Mathlib.Omega.{arith}
use Rattle.rows.specs.Rows.{row_words}
use Rattle.relation.proofs.Matrices.{matrix-small}
use Rattle.relation.proofs.matrix_words.Goals.{After-row_words}
use Rattle.relation.proofs.matrix_words.Goals as goal

-- as many words as the definition says
same : (c : After-row_words) → c.args.n * c.row_words.result ≡ c.args.n * row_words c.args.n
same c = ap (λ (w : ℕ). c.args.n * w) c.row_words.ensures

pub overflow_mul-result : goal.overflow_mul-result
overflow_mul-result c = omega (arith, same c, matrix-small c.args.n c.requires)

pub returns : goal.returns
returns c = (same c, omega (arith, same c, matrix-small c.args.n c.requires))
