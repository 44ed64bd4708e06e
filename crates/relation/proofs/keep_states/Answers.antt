-- `relation::keep_states` meets its contract: by `row-zipped`. Assumes nothing.
use mathlib.Core.Path.{refl}
use mathlib.Core.Bool.{◌&&◌}
use Prim.Native.Nat.{◌≤◌, ◌+◌, ◌*◌}
use native.Mathlib.Omega.{arith}
use lib.ListN.{length, length-drop}
use Rattle.rows.specs.Rows.{in_row}
use Rattle.relation.proofs.Matrices.{row_fits, row-zipped}
use Rattle.rows.proofs.Rows.{tail-part}
use Rattle.relation.proofs.keep_states.Goals.{After-row_words-w}
use Rattle.relation.proofs.keep_states.Goals as goal

-- row p lies within the matrix
room : (c : After-row_words-w) → c.args.p * c.row_words-w.result + c.row_words-w.result ≤ length c.args.grid.now
room c = row_fits c.args.n c.args.grid.now c.row_words-w.ensures c.requires.2 c.requires.0.long

pub overflow_mul-at : goal.overflow_mul-at
overflow_mul-at c = omega (arith, room c)

pub offset_bounds-grid-at : goal.offset_bounds-grid-at
offset_bounds-grid-at c = omega (arith, room c)

pub slice_bounds-row_intersect-count : goal.slice_bounds-row_intersect-count
slice_bounds-row_intersect-count c = omega (arith, room c)

pub row_intersect-requires : goal.row_intersect-requires
row_intersect-requires c = (simp (tail-part, length-drop) (omega (arith, room (goal.at.row_intersect-requires c).After-row_words-w)), omega (arith, c.row_words-w.ensures, c.requires.3))

pub returns : goal.returns
returns c =
    row-zipped c.args.n c.args.p c.args.grid.now ◌&&◌ (in_row c.args.mask.now) (λ b. refl) c.requires.0 (λ j. ((goal.at.returns c).After-row_words-w.type_inv.grid j).fits) c.requires.2
    c.row_words-w.ensures c.row_intersect.new.row c.row_intersect.ensures
