-- `starts::write_ready` meets its contract: row by row, each lent from its first word on.
use mathlib.Core.Path.{sym, ap, ◌∙◌}
use mathlib.Core.List.{List, ◌++◌}
use Prim.Native.Nat.{ℕ, ◌≤◌, ◌+◌, ◌*◌, ◌-◌}
use native.Mathlib.Omega.{arith}
use lib.ListN.{length, take, drop, length-drop}
use borrow.Rule.Slice.PartMut.{same_len_mid}
use Rattle.lts.specs.Ready.{ready_preorder}
use Rattle.lts.proofs.Below.{length-list_below}
use Rattle.rows.specs.Rows.{row_words}
use Rattle.rows.proofs.Rows.{tail-part}
use Rattle.relation.specs.Matrix.{matrix_of}
use Rattle.relation.proofs.Matrices.{row_fits, rows_none, rows_more, rows-done}
use Rattle.transitions.specs.Table.{table_lts}
use Rattle.starts.proofs.Rows.{row-of-table}
use borrow.Author.Rules.{rules}
use Rattle.starts.proofs.write_ready.Goals.{In-loop-p}
use Rattle.starts.proofs.write_ready.Goals as goal

pub loop-p-init : goal.loop-p-init
loop-p-init c = (search rules, rows_none _ _ _)

-- row p lies within the matrix
room : (c : In-loop-p) → let w = c.row_words-w.result in c.loop-p.p * w + w ≤ length c.loop-p.grid
room c =
    row_fits c.states-n.result c.loop-p.grid c.row_words-w.ensures c.loop-p-test.true
    (c.loop-p.invariant.0 ∙ c.requires.1 ∙ ap (λ (n : ℕ). n * row_words n) (sym c.states-n.ensures.0))

pub overflow_mul-at : goal.overflow_mul-at
overflow_mul-at c = omega (arith, room c)

pub offset_bounds-grid-at : goal.offset_bounds-grid-at
offset_bounds-grid-at c = omega (arith, room c)

pub slice_bounds-row_copy-count : goal.slice_bounds-row_copy-count
slice_bounds-row_copy-count c = omega (arith, room c)

pub row_copy-requires : goal.row_copy-requires
row_copy-requires c = (
  simp (tail-part, length-drop) (omega (arith, room (goal.at.row_copy-requires c).In-loop-p)),
  omega (arith, ap length c.ready_row.ensures ∙ length-list_below 4 _, c.row_words-w.ensures, c.states-n.ensures.0, c.requires.0.states),
)

pub loop-p-preserved : goal.loop-p-preserved
loop-p-preserved c =
    let t = c.args.table.now in
    let g = c.loop-p.grid in
    let at = c.loop-p.p * c.row_words-w.result in (
      same_len_mid {X = ℕ} at (length g - at) g c.row_copy.new.row c.row_copy.auto.row ∙ c.loop-p.invariant.0,
      rows_more c.states-n.result (ready_preorder (table_lts t)) c.row_words-w.ensures _ _ _ _ c.loop-p.invariant.1
          (c.row_copy.ensures
          ∙ ap (λ (l : List ℕ). l ++ drop c.row_words-w.result (take (length g - at) (drop at g)))
          (row-of-table t c.requires.0 c.states-n.ensures.0 c.row_words-w.ensures c.loop-p-test.true c.terminating-terminating.ensures
          c.action_words-words.ensures c.ready_row.ensures)),
    )

pub returns : goal.returns
returns c =
    let states = c.states-n.ensures.0 in
    let R = ready_preorder (table_lts c.args.table.now) in
    rows-done _ R _ _ _ c.loop-p.invariant.1 (c.requires.1 ∙ ap (λ (n : ℕ). n * row_words n) (sym states)) (search rules)
    ∙ ap (λ (n : ℕ). matrix_of n R) states
