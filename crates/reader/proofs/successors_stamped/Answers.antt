-- `reader::successors_stamped` meets its contract: the loop has passed over the states below p, whose stamps are at most p.
use borrow.Author.Rules.{rules}
use native.Mathlib.Nat.{le_of_eq}
use mathlib.Core.Path.{refl}
use Rattle.encoding.specs.Encoding.{successors_fit}
use Rattle.lts.proofs.Lists.{all_none, all_more, all-stop, all_done}
use Rattle.reader.proofs.Marks.{stamp-test, stamp-next}
use mathlib.Core.Path.{ap}
use mathlib.Core.Bool.{not}
use Rattle.reader.proofs.successors_stamped.Goals as goal

pub loop-p-init : goal.loop-p-init
loop-p-init c =
    (c.requires.0, all_none _, c.requires.1, λ i. le_of_eq (c.requires.2 i), refl)

pub returns-then-not-stamp_chain : goal.returns-then-not-stamp_chain
unfolding successors_fit
returns-then-not-stamp_chain c =
    let v = c.loop-p.invariant in
    all-stop _ _ _ (search rules) (stamp-test _ _ v.0 c.loop-p.p (search rules) _ v.2 v.3 c.stamp_chain.ensures.value) (ap not c.if-not-stamp_chain.true)

pub loop-p-preserved : goal.loop-p-preserved
loop-p-preserved c =
    let v = c.loop-p.invariant in
    let n = stamp-next _ _ v.0 c.loop-p.p (search rules) _ v.2 v.3 c.stamp_chain.ensures.stamps_after (ap not c.if-not-stamp_chain.false) in (v.0, all_more _ _ v.1 (stamp-test _ _ v.0 c.loop-p.p (search rules) _ v.2 v.3 c.stamp_chain.ensures.value) (ap not c.if-not-stamp_chain.false), n.0, n.1, search rules)

pub returns : goal.returns
unfolding successors_fit
returns c = all_done _ _ _ c.loop-p.invariant.1 (search rules) (search rules)
