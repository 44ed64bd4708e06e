-- `strategy_judge::refuted_mark` meets its contract: by the states that p leads to, and the marks of the replies.
use native.Mathlib.Omega.{arith}
use Rattle.strategy_depth.specs.Marks.{mark_of}
use Rattle.strategy_judge.proofs.Marks.{no-transition, no-mark, replies-marked}
use mathlib.Core.Path.{ap}
use mathlib.Core.Bool.{not}
use Rattle.strategy_judge.proofs.refuted_mark.Goals as goal

pub returns-then-not-contains : goal.returns-then-not-contains
returns-then-not-contains c =
    (no-transition c.args.table.now c.requires.0 (mark_of c.args.judged.now) c.args.p c.args.q c.args.a c.args.t c.requires.3 c.successors.ensures c.contains.ensures (ap not c.if-not-contains.true), omega arith)

pub returns-then-depth-eq0 : goal.returns-then-depth-eq0
returns-then-depth-eq0 c = (
  no-mark c.args.table.now c.requires.0 (mark_of c.args.judged.now) c.args.p c.args.q c.args.a c.args.t c.requires.3 c.successors.ensures c.contains.ensures (ap not c.if-not-contains.false)
      c.reply_depth-depth.ensures.0 c.if-depth-eq0.true,
  omega arith,
)

pub returns : goal.returns
returns c = (
  replies-marked c.args.table.now c.requires.0 (mark_of c.args.judged.now) c.args.p c.args.q c.args.a c.args.t c.requires.3 c.successors.ensures c.contains.ensures (ap not c.if-not-contains.false)
      c.reply_depth-depth.ensures.0 c.if-depth-eq0.false,
  omega (arith, c.reply_depth-depth.ensures.1),
)
