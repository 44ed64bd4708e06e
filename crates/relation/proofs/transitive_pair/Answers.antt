-- `relation::transitive_pair` meets its contract: the row of q lies within the row of p. Assumes nothing.
use mathlib.Core.Path.{ap, ap₂, ◌∙◌}
use mathlib.Core.List.{List}
use Prim.Native.Nat.{ℕ, ◌*◌}
use Rattle.rows.specs.Rows.{in_row, row_words, included_below}
use Rattle.relation.specs.Matrix.{relation_of}
use Rattle.relation.proofs.Rows.{row_words_lem}
use Rattle.relation.proofs.Checks.{rows-within}
use Rattle.relation.proofs.Transitivity.{pair-some}
use borrow.Author.Rules.{rules}
use Rattle.relation.proofs.transitive_pair.Goals as goal

pub row_within-requires : goal.row_within-requires
row_within-requires c =
    let n = c.args.n in
    let g = c.args.grid.now in
    let width = c.row_words-w.ensures in
    (row_words_lem n g width c.row_at.ensures (search rules) c.requires.0, row_words_lem n g width c.row_at-2.ensures (search rules) c.requires.0)

pub returns : goal.returns
returns c =
    let n = c.args.n in
    let g = c.args.grid.now in
    let p = c.args.p in
    let q = c.args.q in
    c.row_within.ensures
    ∙ ap (λ (w : ℕ). included_below (w * 64) (in_row c.row_at.result.now) (in_row c.row_at-2.result.now)) c.row_words-w.ensures
    ∙ ap₂ (λ (a b : List ℕ). included_below (row_words n * 64) (in_row a) (in_row b)) c.row_at.ensures c.row_at-2.ensures
    ∙ rows-within n g q p c.requires.0 c.requires.3
    ∙ pair-some n (relation_of n g) p q c.requires.4
