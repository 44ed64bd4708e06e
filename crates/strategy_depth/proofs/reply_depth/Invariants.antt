use Rattle.strategy_depth.specs.Marks.{mark_of}
use Rattle.strategy_depth.proofs.Replies.{Seen}
use Rattle.strategy_depth.proofs.reply_depth.Given as goal

abbrev pub invariant-loop-i : goal.invariant-loop-i
invariant-loop-i l = Seen l.table (mark_of l.marks) l.q l.a l.t l.i l.depth
