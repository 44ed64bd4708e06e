-- `strategy_judge::answer` meets its contract: the answer, by its test.
use Rattle.strategy_judge.proofs.Answers.{answer-unsound, answer-last}
use Rattle.strategy_judge.proofs.answer.Goals as goal

pub returns-then-count-judged : goal.returns-then-count-judged
returns-then-count-judged c = answer-unsound _ _ c.if-count-judged.true

pub returns : goal.returns
returns c = rw (c.from.ensures, c.from-2.ensures, c.from-3.ensures) (answer-last _ _ c.if-count-judged.false)
