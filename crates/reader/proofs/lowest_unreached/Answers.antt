-- `reader::lowest_unreached` meets its contract: the records on the chains of the states below p are marked.
use borrow.Author.Rules.{rules}
use Rattle.encoding.proofs.Chains.{zeros-at, zeros-long}
use Rattle.reader.proofs.Reaching.{reached-none, reached-lowest}
use Rattle.reader.proofs.lowest_unreached.Goals as goal

pub loop-p-init : goal.loop-p-init
loop-p-init c = (search rules, reached-none _ _ _ (zeros-long 1025) (zeros-at 1025))

pub returns : goal.returns
returns c =
    reached-lowest _ _ c.loop-p.invariant.0 _ c.loop-p.invariant.1 (search rules) (search rules) c.lowest_unmarked.ensures
