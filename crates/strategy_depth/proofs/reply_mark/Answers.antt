-- `strategy_depth::reply_mark` meets its contract: by the transition's action.
use mathlib.Core.Path.{sym, ◌∙◌}
use native.Mathlib.Omega.{arith}
use Rattle.strategy_depth.proofs.Replies.{mark-own, mark-other}
use Rattle.strategy_depth.proofs.reply_mark.Goals as goal

pub returns-then-action-a : goal.returns-then-action-a
returns-then-action-a c = (mark-other _ _ _ _ _ (λ e. c.if-action-a.true (c.action.ensures.0 ∙ e)), omega arith)

pub returns : goal.returns
returns c = (mark-own _ _ _ _ _ (sym c.action.ensures.0 ∙ c.if-action-a.false) c.target.ensures.0 c.mark_of.ensures.0, c.mark_of.ensures.1)
