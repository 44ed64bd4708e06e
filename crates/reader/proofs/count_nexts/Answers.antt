-- `reader::count_nexts` meets its contract: the loop has counted the next indices of the records up to i.
use borrow.Author.Rules.{rules}
use mathlib.Core.Path.{ap}
use Rattle.reader.proofs.Counts.{counted_none, counted-more, counted-most, counted-all}
use Rattle.reader.proofs.count_nexts.Goals as goal

pub loop-i-init : goal.loop-i-init
loop-i-init c =
    (c.requires.0, c.requires.1, c.requires.2, counted_none _ _)

pub overflow_add-named : goal.overflow_add-named
overflow_add-named c =
    let j = c.known_transition.result.next in
    let e = counted-most _ _ c.loop-i.invariant.3 j (c.loop-i.invariant.2 j) in
    search rules

pub loop-i-preserved : goal.loop-i-preserved
loop-i-preserved c =
    (c.loop-i.invariant.0, search rules, c.loop-i.invariant.2, counted-more _ _ c.loop-i.invariant.3 _ (ap (λ r. r.next) c.known_transition.ensures.is) (search rules))

pub returns : goal.returns
returns c =
    counted-all _ _ c.loop-i.invariant.3 _ (search rules) (search rules)
