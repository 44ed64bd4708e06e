-- `reader::chains_fit` meets its contract: marks that start from zeros are set where a record is reached.
use Rattle.encoding.proofs.Chains.{zeros-at, zeros-long}
use Rattle.reader.proofs.Marks.{chains-stop, chains-done}
use mathlib.Core.Path.{ap}
use mathlib.Core.Bool.{not}
use Rattle.reader.proofs.chains_fit.Goals as goal

pub returns-then-not-mark_chains : goal.returns-then-not-mark_chains
returns-then-not-mark_chains c =
    let g = c.requires in
    chains-stop _ _ g _ (zeros-long 1025) (zeros-at 1025) c.mark_chains.ensures.value (ap not c.if-not-mark_chains.true)

pub returns : goal.returns
returns c =
    let g = c.requires in
    chains-done _ _ g _ (zeros-long 1025) (zeros-at 1025) c.mark_chains.ensures.value (ap not c.if-not-mark_chains.false) c.mark_chains.ensures.seen_after c.lowest_unmarked.ensures
