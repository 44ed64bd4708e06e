-- `rows::row_count` meets its contract: the ones of the words, summed, are the states. Assumes nothing.
use mathlib.Core.Path.{◌∙◌}
use lib.Count.{ones}
use lib.ListN.{take}
use Rattle.std.proofs.Common.{rules, tests}
use Rattle.std.proofs.lemmas.Iterator.{YieldsList-from_slice, YieldsList-from_map}
use Rattle.std.proofs.lemmas.Iterator.Consumers.{sum_by_from_yields_List, fits_by_from_yields_list}
use Rattle.rows.proofs.Counts.{ones-fit, ones-states}
use Rattle.rows.proofs.row_count.Goals as goal

pub sum-requires-clause-fits : goal.sum-requires-clause-fits
sum-requires-clause-fits c =
    let words = take c.args.k c.args.row.now in
    fits_by_from_yields_list ones words _ _
    (YieldsList-from_map _ ones (YieldsList-from_slice words cc) c.map.ensures.closure (λ x r q k. search (rules, tests)))
    (ones-fit c.args.row.now c.args.k (λ j. (c.type_inv.row j).fits) c.requires.0 c.requires.1)

pub returns : goal.returns
returns c =
    let words = take c.args.k c.args.row.now in
    sum_by_from_yields_List ones words _ _ c.sum.ensures.ran
    (YieldsList-from_map _ ones (YieldsList-from_slice words cc) c.map.ensures.closure (λ x r q k. search (rules, tests)))
    ∙ ones-states c.args.row.now c.args.k (λ j. (c.type_inv.row j).fits) c.requires.0
