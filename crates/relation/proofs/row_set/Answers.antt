-- `relation::row_set` meets its contract: by `copied-row`. Assumes nothing.
use mathlib.Core.Path.{refl, ◌∙◌}
use Prim.Native.Nat.{ℕ}
use native.Mathlib.Omega.{arith}
use lib.ListN.{replicate}
use Rattle.rows.proofs.Rows.{get_or-zeros}
use Rattle.relation.proofs.Rows.{copied-row, row_words_lem}
use Rattle.relation.proofs.row_set.Goals as goal

pub row_copy-requires : goal.row_copy-requires
row_copy-requires c =
    let width = c.row_words-w.ensures in
    (omega (arith, width, c.requires.0), row_words_lem c.args.n c.args.grid.now width c.row_at.ensures c.requires.2 c.requires.1)

pub returns : goal.returns
returns c =
    c.row_copy.ensures
    ∙ copied-row c.args.n c.args.p c.args.grid.now _ (replicate {A = ℕ} 4 0) c.row_words-w.ensures c.requires.0 c.requires.1 c.requires.2 refl (get_or-zeros 4) c.row_at.ensures
