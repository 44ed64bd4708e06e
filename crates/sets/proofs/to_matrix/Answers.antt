-- `sets::to_matrix` meets its contract. Assumes nothing.
use mathlib.Core.Path.{sym, ap, ◌∙◌}
use Prim.Native.Nat.{◌<◌}
use Rattle.lts.proofs.Below.{length-list_below}
use Rattle.rows.specs.Rows.{in_row, word_at}
use native.Mathlib.Omega.{arith}
use lib.ListN.{length}
use Rattle.relation.specs.Matrix.{relation_of}
use Rattle.relation.proofs.Matrices.{length-matrix_of, matrix-relation, formed-of}
use Rattle.relation.proofs.Rows.{row-set, rows_end}
use Rattle.sets.specs.Sets.{set_at}
use Rattle.sets.proofs.Lists.{set-in}
use Rattle.sets.proofs.Matrices.{rows-begin}
use borrow.Author.Rules.{rules}
use Rattle.sets.proofs.to_matrix.Goals as goal

pub loop-p-init : goal.loop-p-init
loop-p-init c = matrix-relation _ _ c.requires.n_bound.2 (λ j. (c.type_inv.grid j).fits) ∙ rows-begin _ _ _

pub set_row-requires : goal.set_row-requires
set_row-requires c =
    let hp : c.loop-p.p < c.args.n = c.loop-p-test.true in (
      formed-of _ _ c.loop-p.invariant,
      c.requires.n_bound.0,
      hp,
      record {
        long = omega (arith, ap length c.at-row.ensures, length-list_below 4 (word_at (set_at c.args.list.now c.loop-p.p)), c.requires.n_bound.0);
        clear = λ q h l.
            let u : q < 256 = omega (arith, l, c.requires.n_bound.0) in
            set-in _ c.at-row.ensures q u ∙ c.requires.by_index c.loop-p.p q hp h u;
      },
    )

pub loop-p-preserved : goal.loop-p-preserved
loop-p-preserved c =
    let n = c.args.n in
    let hp : c.loop-p.p < n = c.loop-p-test.true in
    c.set_row.ensures
    ∙ row-set n (set_at c.args.list.now) (relation_of n c.args.grid.now) c.loop-p.p c.loop-p.grid hp c.loop-p.invariant (in_row c.at-row.result)
    (λ q hq. set-in _ c.at-row.ensures q (omega (arith, hq, c.requires.n_bound.0)))

pub shape_of-grid : goal.shape_of-grid
shape_of-grid c = ap length c.loop-p.invariant ∙ length-matrix_of _ _ ∙ sym c.requires.n_bound.2.long

pub returns : goal.returns
returns c = c.loop-p.invariant ∙ rows_end _ _ _ _ 0 (search rules)
