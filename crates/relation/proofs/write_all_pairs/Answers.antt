-- `relation::write_all_pairs` meets its contract: row by row, each lent from its first word on. Assumes nothing.
use mathlib.Core.Path.{ap, ◌∙◌}
use mathlib.Core.Bool.{true}
use mathlib.Core.List.{List, ◌++◌}
use Prim.Native.Nat.{ℕ, ◌≤◌, ◌+◌, ◌*◌, ◌-◌}
use native.Mathlib.Omega.{arith}
use lib.ListN.{length, take, drop, length-drop}
use borrow.Rule.Slice.PartMut.{same_len_mid}
use Rattle.relation.proofs.Matrices.{row_fits, rows_none, rows_more, rows-done}
use Rattle.relation.proofs.Rows.{all_row}
use Rattle.rows.proofs.Rows.{tail-part}
use borrow.Author.Rules.{rules}
use Rattle.relation.proofs.write_all_pairs.Goals.{In-loop-p}
use Rattle.relation.proofs.write_all_pairs.Goals as goal

pub loop-p-init : goal.loop-p-init
loop-p-init c = (search rules, rows_none _ _ _)

-- row p lies within the matrix
room : (c : In-loop-p) → c.loop-p.p * c.row_words-w.result + c.row_words-w.result ≤ length c.loop-p.grid
room c = row_fits c.args.n c.loop-p.grid c.row_words-w.ensures c.loop-p-test.true (c.loop-p.invariant.0 ∙ c.requires.1)

pub overflow_mul-at : goal.overflow_mul-at
overflow_mul-at c = omega (arith, room c)

pub offset_bounds-grid-at : goal.offset_bounds-grid-at
offset_bounds-grid-at c = omega (arith, room c)

pub slice_bounds-row_copy-count : goal.slice_bounds-row_copy-count
slice_bounds-row_copy-count c = omega (arith, room c)

pub row_copy-requires : goal.row_copy-requires
row_copy-requires c = (simp (tail-part, length-drop) (omega (arith, room (goal.at.row_copy-requires c).In-loop-p)), omega (arith, c.row_words-w.ensures, c.requires.0))

pub loop-p-preserved : goal.loop-p-preserved
loop-p-preserved c =
    let n = c.args.n in
    let w = c.row_words-w.result in
    let g = c.loop-p.grid in
    let at = c.loop-p.p * w in (
      same_len_mid {X = ℕ} at (length g - at) g c.row_copy.new.row c.row_copy.auto.row ∙ c.loop-p.invariant.0,
      rows_more n (λ p q. true) c.row_words-w.ensures _ _ _ _ c.loop-p.invariant.1
          (c.row_copy.ensures
          ∙ ap (λ (l : List ℕ). l ++ drop w (take (length g - at) (drop at g))) (all_row n _ c.row_words-w.ensures c.requires.0 c.states_below-all.ensures)),
    )

pub returns : goal.returns
returns c = rows-done _ _ _ _ _ c.loop-p.invariant.1 (omega arith) (omega arith)
