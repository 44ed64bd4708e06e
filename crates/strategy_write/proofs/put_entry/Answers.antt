-- `strategy_write::put_entry` meets its contract: four stores. Assumes nothing.
use Prim.Native.Nat.{◌*◌}
use native.Mathlib.Omega.{arith}
use lib.ListN.{length-set}
use Rattle.lts.specs.Strategy.{entry_numbers}
use Rattle.strategy_write.proofs.Writes.{put_is}
use Rattle.strategy_write.proofs.put_entry.Goals as goal

pub bounds-numbers-i-2 : goal.bounds-numbers-i-2
bounds-numbers-i-2 c = simp length-set (omega arith)

pub bounds-numbers-i-3 : goal.bounds-numbers-i-3
bounds-numbers-i-3 c = simp length-set (omega arith)

pub bounds-numbers-i-4 : goal.bounds-numbers-i-4
bounds-numbers-i-4 c = simp length-set (omega arith)

pub shape_of-numbers : goal.shape_of-numbers
shape_of-numbers c = simp length-set

pub returns : goal.returns
unfolding entry_numbers
returns c = put_is c.args.numbers.now (4 * c.args.at) c.args.entry.p c.args.entry.q c.args.entry.a c.args.entry.t
