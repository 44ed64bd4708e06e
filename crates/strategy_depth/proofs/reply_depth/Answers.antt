-- `strategy_depth::reply_depth` meets its contract: transition by transition of q's row. Assumes nothing.
use native.Mathlib.Omega.{arith}
use Rattle.std.proofs.Common.{rules}
use Rattle.transitions.proofs.Entries.{row-most, row_below}
use Rattle.strategy_depth.proofs.Replies.{seen_none, seen_more, seen_done, seen-open}
use Rattle.strategy_depth.proofs.reply_depth.Goals as goal

pub loop-i-init : goal.loop-i-init
loop-i-init c = seen_none _ _ _ _ _ _ (omega arith)

pub reply_mark-mark-requires : goal.reply_mark-mark-requires
reply_mark-mark-requires c =
    let most = row-most c.args.table.now c.requires.0 c.args.q c.requires.1 in
    let k = c.requires.0.target c.loop-i.i (row_below c.args.table.now c.requires.0 c.args.q c.requires.1 c.loop-i.i (omega arith)) in
    (c.requires.2, c.requires.3, omega arith, omega (arith, k))

pub returns-then-mark-eq0 : goal.returns-then-mark-eq0
returns-then-mark-eq0 c =
    (seen-open _ _ _ _ _ c.requires.0 c.requires.1 c.loop-i.i (omega arith) (omega arith) c.reply_mark-mark.ensures.0 c.if-mark-eq0.true, omega arith)

pub loop-i-preserved : goal.loop-i-preserved
loop-i-preserved c =
    seen_more _ _ _ _ _ c.loop-i.i c.loop-i.depth c.loop-i.invariant (omega arith) c.reply_mark-mark.ensures.0 c.if-mark-eq0.false c.reply_mark-mark.ensures.1 (search rules)

pub returns : goal.returns
returns c =
    let rising = c.requires.0.rising c.args.q c.requires.1 in
    let high = c.loop-i.auto.i-end (omega (arith, rising)) in
    (seen_done _ _ _ _ _ c.requires.0 c.requires.1 c.loop-i.i _ c.loop-i.invariant (omega arith) (omega (arith, high)), c.loop-i.invariant.small)
