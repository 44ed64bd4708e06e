-- `reader::lowest_counted_twice` meets its contract: the loop has passed over i records, and none of them is counted twice.
use borrow.Author.Rules.{rules}
use borrow.Author.Tests.{le-leb, lt-leb}
use Rattle.reader.proofs.Lowest.{none-start, none_more, none_found, none_end}
use Rattle.reader.proofs.lowest_counted_twice.Goals as goal

pub loop-i-init : goal.loop-i-init
loop-i-init c = none-start _

pub returns-then-named-i-ge2 : goal.returns-then-named-i-ge2
returns-then-named-i-ge2 c = none_found _ _ c.loop-i.invariant (search rules) (le-leb _ _ c.if-named-i-ge2.true)

pub loop-i-preserved : goal.loop-i-preserved
loop-i-preserved c = none_more _ c.loop-i.invariant (lt-leb _ _ c.if-named-i-ge2.false)

pub returns : goal.returns
returns c = none_end _ _ c.loop-i.invariant (search rules)
