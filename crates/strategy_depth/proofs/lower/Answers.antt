-- `strategy_depth::lower` meets its contract: the lower mark is written.
use mathlib.Core.Path.{◌≡◌, ◌∙◌}
use Rattle.strategy_depth.specs.Marks.{lowered}
use Rattle.strategy_depth.proofs.Marks.{lowered-none, lowered_some}
use Rattle.strategy_depth.proofs.lower.Goals.{then-old-eq0, else-old-eq0}
use Rattle.strategy_depth.proofs.lower.Goals as goal

pub returns : goal.returns
returns c =
    let low : c.if-old-eq0.low ≡ lowered c.mark_of-old.result c.args.mark = elim c.if-old-eq0.branch [
      | then-old-eq0 w ↦ w.low-is ∙ lowered-none _ _ w.if-old-eq0.true
      | else-old-eq0 w ↦ w.low-is ∙ w.min-low.ensures ∙ lowered_some _ _ w.if-old-eq0.false
    ] in
    rw (low, c.mark_of-old.ensures.0)
