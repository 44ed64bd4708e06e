-- `relation::count_pairs` meets its contract: the ones of the words, summed, are the pairs. Assumes nothing.
use Rattle.std.proofs.Common.{rules, arith, tests, length, ◌≤◌, ◌∙◌}
use Rattle.std.specs.Int.Count.{ones}
use Rattle.std.proofs.lemmas.Iterator.{YieldsList-from_slice, YieldsList-from_map}
use Rattle.std.proofs.lemmas.Iterator.Consumers.{sum_by_from_yields_List}
use Rattle.std.proofs.lemmas.Iterator.Adapters.{fits_from_length, at_most_from_yields_List}
use Rattle.relation.proofs.Matrices.{matrix-small}
use Rattle.relation.proofs.Counts.{ones-pairs}
use Rattle.relation.proofs.count_pairs.Goals as goal

pub sum-requires-clause-fits : goal.sum-requires-clause-fits
sum-requires-clause-fits c =
    let small : length c.args.grid.now ≤ 1024 = omega (arith, matrix-small c.args.n c.requires.1, c.requires.0.long) in
    fits_from_length _ _ 1024 _ (at_most_from_yields_List (YieldsList-from_slice c.args.grid.now cc) small) c.map.ensures.closure (omega arith) (λ x r q k. search (rules, tests))

pub returns : goal.returns
returns c =
    sum_by_from_yields_List ones c.args.grid.now _ _ c.sum.ensures.ran (YieldsList-from_map _ ones (YieldsList-from_slice c.args.grid.now cc) c.map.ensures.closure (λ x r q k. search rules))
    ∙ ones-pairs _ _ c.requires.0 (λ j. (c.type_inv.grid j).fits)
