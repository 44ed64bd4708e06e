-- `encoding::LabelRecord::read` meets its contract: 16 bytes are copied.
use Prim.Native.Nat.{◌+◌, ◌-◌}
use mathlib.Core.Path.{◌≡◌}
use native.Mathlib.Omega.{arith}
use Rattle.lts.proofs.Lists.{part_below}
use Rattle.encoding.specs.Records.{label_record_at}
use Rattle.encoding.proofs.LabelRecord.read.Goals as goal

pub returns : goal.returns
unfolding label_record_at
returns c =
    let at = c.args.at in
    let e : at + 16 - at ≡ 16 = omega arith in
    rw (c.new.ensures, c.copy_from_slice.ensures.after, e, part_below at 16 c.args.s.now (omega arith))
