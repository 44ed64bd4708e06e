-- `reader::mark_chains` meets its contract: the loop has marked the chains of the states below p.
use borrow.Author.Rules.{rules}
use Prim.Native.Nat.{ℕ}
use Rattle.reader.proofs.Marks.{reach-none, reach-more, reach-stop}
use mathlib.Core.Path.{ap}
use mathlib.Core.Bool.{not}
use Rattle.reader.proofs.mark_chains.Goals as goal

pub loop-p-init : goal.loop-p-init
loop-p-init c = (search rules, reach-none _ _ _)

pub loop-p-preserved : goal.loop-p-preserved
loop-p-preserved c =
    (c.loop-p.invariant.0, reach-more _ _ _ _ c.loop-p.invariant.1 c.mark_chain.ensures.value c.mark_chain.ensures.seen_after (ap not c.if-not-mark_chain.false))

pub returns-then-not-mark_chain-clause-value : goal.returns-then-not-mark_chain-clause-value
returns-then-not-mark_chain-clause-value c =
    (reach-stop _ _ _ {X = ℕ} _ _ (search rules) c.loop-p.invariant.1 c.mark_chain.ensures.value (ap not c.if-not-mark_chain.true)).0
