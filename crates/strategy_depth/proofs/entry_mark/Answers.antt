-- `strategy_depth::entry_mark` meets its contract: by the action.
use Rattle.strategy_depth.proofs.Replies.{entry-outside, entry-moved}
use Rattle.strategy_depth.proofs.entry_mark.Goals as goal

pub returns-then-a-eq0 : goal.returns-then-a-eq0
returns-then-a-eq0 c = entry-outside _ _ _ _ _ c.if-a-eq0.true

pub returns : goal.returns
returns c = entry-moved _ _ _ _ _ c.if-a-eq0.false c.reply_depth.ensures.0
