-- `relation::is_reflexive` meets its contract: state by state. Assumes nothing.
use Rattle.std.proofs.Common.{rules, arith, refl, ◌∙◌}
use Rattle.std.proofs.lemmas.Iterator.{YieldsList-from_range}
use Rattle.std.proofs.lemmas.Iterator.Search.{all_from_yields_List}
use Rattle.relation.specs.Matrix.{relation_of}
use Rattle.relation.specs.Check.{reflexive_below}
use Rattle.relation.proofs.Places.{all-range}
use Rattle.relation.proofs.is_reflexive.Goals as goal

pub returns : goal.returns
unfolding reflexive_below
returns c =
    all_from_yields_List (λ p. relation_of c.args.n c.args.grid.now p p) _ _ _ c.all.ensures.ran (YieldsList-from_range 0 c.args.n _ refl (omega arith)) (λ x b q k. (search rules, search rules))
    ∙ all-range _ c.args.n
