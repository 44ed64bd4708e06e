-- `relation::row_at` meets its contract: a part from the row's first word on. Assumes nothing.
use mathlib.Core.Path.{ap, ◌∙◌}
use Prim.Native.Nat.{ℕ, ◌≤◌, ◌+◌, ◌*◌}
use native.Mathlib.Omega.{arith}
use lib.ListN.{length, drop}
use Rattle.relation.proofs.Matrices.{row_fits}
use Rattle.rows.proofs.Rows.{tail-part}
use Rattle.relation.proofs.row_at.Goals.{After-row_words-w}
use Rattle.relation.proofs.row_at.Goals as goal

-- row p lies within the matrix
room : (c : After-row_words-w) → c.args.p * c.row_words-w.result + c.row_words-w.result ≤ length c.args.grid.now
room c = row_fits c.args.n c.args.grid.now c.row_words-w.ensures c.requires.2 c.requires.0

pub overflow_mul-at : goal.overflow_mul-at
overflow_mul-at c = omega (arith, room c)

pub offset_bounds-grid-at : goal.offset_bounds-grid-at
offset_bounds-grid-at c = omega (arith, room c)

pub slice_bounds-result-count : goal.slice_bounds-result-count
slice_bounds-result-count c = omega (arith, room c)

pub returns : goal.returns
returns c =
    tail-part (c.args.p * c.row_words-w.result) c.args.grid.now ∙ ap (λ (w : ℕ). drop (c.args.p * w) c.args.grid.now) c.row_words-w.ensures
