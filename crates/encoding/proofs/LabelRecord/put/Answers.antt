-- `encoding::LabelRecord::put` meets its contract: the bytes are put in the middle of the buffer.
use Prim.Native.Nat.{◌+◌, ◌-◌}
use mathlib.Core.Path.{◌≡◌}
use native.Mathlib.Omega.{arith}
use borrow.Author.Rules.{rules}
use Rattle.lts.proofs.Lists.{middle-sets}
use Rattle.encoding.proofs.LabelRecord.put.Goals as goal

pub returns : goal.returns
returns c =
    let e : c.args.at + 16 - c.args.at ≡ 16 = omega arith in
    rw (e, c.copy_from_slice.ensures.after) (middle-sets c.args.at 16 c.args.out.now c.args.self.bytes (search rules) (omega arith))
