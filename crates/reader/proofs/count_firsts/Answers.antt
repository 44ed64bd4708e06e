-- `reader::count_firsts` meets its contract: the loop has counted the first indices of the states below p.
use borrow.Author.Rules.{rules}
use Rattle.reader.proofs.Counts.{counted_none, counted-more, counted-most, counted-all}
use Rattle.reader.proofs.count_firsts.Goals as goal

pub loop-p-init : goal.loop-p-init
loop-p-init c =
    (c.requires.0, c.requires.1, c.requires.2, counted_none _ _)

pub overflow_add-named : goal.overflow_add-named
overflow_add-named c =
    let j = c.first_of.result in
    let e = counted-most _ _ c.loop-p.invariant.3 j (c.loop-p.invariant.2 j) in
    search rules

pub loop-p-preserved : goal.loop-p-preserved
loop-p-preserved c =
    (c.loop-p.invariant.0, search rules, c.loop-p.invariant.2, counted-more _ _ c.loop-p.invariant.3 _ c.first_of.ensures.is (search rules))

pub returns : goal.returns
returns c =
    counted-all _ _ c.loop-p.invariant.3 _ (search rules) (search rules)
