-- `relation::is_matrix` meets its contract: the length, then each row. Assumes nothing.
use Rattle.std.proofs.Common.{rules, arith, refl, sym, ◌∙◌}
use borrow.Author.Tests.{ne_eqb}
use Rattle.std.proofs.lemmas.Iterator.{YieldsList-from_range}
use Rattle.std.proofs.lemmas.Iterator.Search.{all_from_yields_List}
use Rattle.relation.specs.Check.{clear_at}
use Rattle.relation.proofs.Places.{all-range}
use Rattle.relation.proofs.Checks.{wrong-length, right-length}
use Rattle.relation.proofs.is_matrix.Goals as goal

pub returns-then-grid-matrix_words : goal.returns-then-grid-matrix_words
returns-then-grid-matrix_words c =
    all_from_yields_List (clear_at c.args.n c.args.grid.now) _ _ _ c.all.ensures.ran (YieldsList-from_range 0 c.args.n _ refl (omega arith)) (λ x b q k. (search rules, search rules))
    ∙ all-range _ c.args.n ∙ right-length _ _ (c.if-grid-matrix_words.true ∙ c.matrix_words.ensures.0)

pub returns-else-grid-matrix_words : goal.returns-else-grid-matrix_words
returns-else-grid-matrix_words c =
    let other = c.if-grid-matrix_words.false in ne_eqb _ _ other ∙ wrong-length _ _ (λ e. other (e ∙ sym c.matrix_words.ensures.0))
