-- `reader::reach_chain` meets its contract: the walk along state p's chain has come to j.
use borrow.Author.Rules.{rules}
use mathlib.Core.Path.{ap}
use mathlib.Core.Logic.{inl, inr}
use Rattle.reader.proofs.Reaching.{reaching-start, reaching-end, reaching-more, unmarked-less}
use Rattle.reader.proofs.reach_chain.Goals as goal

pub loop-j-init : goal.loop-j-init
loop-j-init c =
    (c.requires.0, c.first_of-j.ensures.bound, reaching-start _ _ _ _ c.requires.2 c.first_of-j.ensures.is)

pub returns-then-seen-j-eq1 : goal.returns-then-seen-j-eq1
returns-then-seen-j-eq1 c = reaching-end _ _ _ c.loop-j.invariant.2 (inr c.if-seen-j-eq1.true)

pub loop-j-smaller : goal.loop-j-smaller
loop-j-smaller c =
    unmarked-less _ _ c.loop-j.invariant.2.long (search rules) c.if-seen-j-eq1.false

pub loop-j-preserved : goal.loop-j-preserved
loop-j-preserved c =
    (c.loop-j.invariant.0, c.known_transition-j.ensures.next, reaching-more _ _ _ c.loop-j.invariant.2 (search rules) (search rules) _ (ap (λ r. r.next) c.known_transition-j.ensures.is))

pub returns : goal.returns
returns c = reaching-end _ _ _ c.loop-j.invariant.2 (inl (search rules))
