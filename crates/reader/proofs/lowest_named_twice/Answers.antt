-- `reader::lowest_named_twice` meets its contract: counted from zeros, each record has as many as there are indices that name it.
use mathlib.Core.Path.{◌∙◌}
use native.Mathlib.Omega.{arith}
use Rattle.encoding.proofs.Chains.{zeros-at, zeros-long}
use Rattle.reader.proofs.Counts.{firsts-most, counted-lowest}
use Rattle.reader.proofs.lowest_named_twice.Goals as goal

pub count_firsts-requires : goal.count_firsts-requires
count_firsts-requires c = (c.requires, zeros-long 1025, λ j. let z = zeros-at 1025 j in omega (arith, z))

pub count_nexts-requires : goal.count_nexts-requires
count_nexts-requires c =
    (c.requires, c.count_firsts.ensures.long ∙ zeros-long 1025, firsts-most _ _ (zeros-at 1025) c.count_firsts.ensures c.requires.sized.bounds)

pub returns : goal.returns
returns c =
    counted-lowest _ _ (zeros-at 1025) c.count_firsts.ensures c.count_nexts.ensures
    c.lowest_counted_twice.ensures
