-- `strategy_judge::judge` meets its contract: one entry more.
use mathlib.Core.Path.{◌∙◌}
use native.Mathlib.Omega.{arith}
use lib.ListN.{length-set}
use Rattle.strategy_judge.proofs.Steps.{judged-below, judges-unsound, judges-sound}
use Rattle.strategy_judge.proofs.Marks.{judgeable-small}
use Rattle.strategy_judge.proofs.judge.Goals as goal

pub returns-then-mark-eq0 : goal.returns-then-mark-eq0
returns-then-mark-eq0 c =
    (length-set c.args.judged.now 65536 1 ∙ c.requires.1, judges-unsound _ _ (judgeable-small _ _ c.requires.0) _ c.requires.1 _ c.mark_over-mark.ensures.0 c.if-mark-eq0.true)

pub lower-requires : goal.lower-requires
lower-requires c =
    let b = judged-below _ _ (judgeable-small _ _ c.requires.0) c.args.judged.now c.requires.1 c.args.e c.mark_over-mark.ensures.0 c.if-mark-eq0.false in
    (omega (arith, c.requires.1), omega (arith, b, c.from.ensures), omega (arith, b, c.from-2.ensures))

pub returns : goal.returns
returns c =
    rw (c.lower.ensures, c.from.ensures, c.from-2.ensures)
    (judges-sound _ _ (judgeable-small _ _ c.requires.0) _ c.requires.1 _ c.mark_over-mark.ensures.0 c.if-mark-eq0.false)
