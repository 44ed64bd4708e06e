-- `reader::lowest_unmarked` meets its contract: the loop has passed over i records, and all of them are marked.
use borrow.Author.Rules.{rules}
use mathlib.Core.Path.{ap}
use mathlib.Core.Bool.{not}
use borrow.Author.Tests.{eq-eqb, ne_eqb}
use Rattle.reader.proofs.Lowest.{none-start, none_more, none_found, none_end}
use Rattle.reader.proofs.lowest_unmarked.Goals as goal

pub loop-i-init : goal.loop-i-init
loop-i-init c = none-start _

pub returns-then-seen-i-ne1 : goal.returns-then-seen-i-ne1
returns-then-seen-i-ne1 c = none_found _ _ c.loop-i.invariant (search rules) (ap not (ne_eqb _ _ c.if-seen-i-ne1.true))

pub loop-i-preserved : goal.loop-i-preserved
loop-i-preserved c = none_more _ c.loop-i.invariant (ap not (eq-eqb _ _ c.if-seen-i-ne1.false))

pub returns : goal.returns
returns c = none_end _ _ c.loop-i.invariant (search rules)
