-- `strategy_write::entry_from` meets its contract: the first transition without an answer. Assumes nothing.
use native.Mathlib.Omega.{arith}
use Rattle.strategy_write.specs.Writing.{pairs_of, Unanswered}
use Rattle.strategy_write.proofs.Answers.{first-lowest}
use Rattle.strategy_write.proofs.Writes.{entry-first, entry-later}
use Rattle.strategy_write.proofs.entry_from.Goals.{After-first_unanswered-i}
use Rattle.strategy_write.proofs.entry_from.Goals as goal

pub returns-then-initial : goal.returns-then-initial
returns-then-initial c = entry-first _ _ _ _ c.if-initial.true

-- the transition that is written
first : (c : After-first_unanswered-i) → let a = c.args in
    Unanswered a.table.now (pairs_of a.table.now a.before.now) a.p a.q c.first_unanswered-i.result
first c =
    first-lowest c.args.table.now c.requires.fact.0 c.args.before.now c.args.p c.args.q c.requires.fact.2 (c.requires.q_value c.if-initial.false) c.first_unanswered-i.ensures

pub action-requires : goal.action-requires
action-requires c = omega (arith, (first (goal.at.action-requires c).After-first_unanswered-i).below, c.requires.fact.0.size)

pub target-requires : goal.target-requires
target-requires c = omega (arith, (first (goal.at.target-requires c).After-first_unanswered-i).below, c.requires.fact.0.size)

pub returns : goal.returns
returns c =
    entry-later c.args.table.now _ c.args.p c.args.q _ c.if-initial.false (first (goal.at.returns c).After-first_unanswered-i) c.action.ensures.0 c.target.ensures.0
