-- `conversion::copy_end` meets its contract: all but the last `left` bytes are copied.
use Prim.Native.Nat.{◌-◌}
use mathlib.Core.Path.{◌≡◌}
use native.Mathlib.Omega.{arith}
use lib.ListN.{length}
use Rattle.conversion.proofs.Copies.{copied_none, copied_more, copied_all}
use Rattle.conversion.proofs.copy_end.Goals as goal

pub loop-left-init : goal.loop-left-init
loop-left-init c = copied_none c.args.s.now c.args.out.now c.args.size

pub loop-left-preserved : goal.loop-left-preserved
loop-left-preserved c =
    let left = c.loop-left.left in
    let place : length c.args.out.now - 1 - (left - 1) ≡ length c.args.out.now - left = omega arith in
    let from_there : length c.args.s.now - 1 - (left - 1) ≡ length c.args.s.now - left = omega arith in
    rw (place, from_there) (copied_more c.args.s.now c.args.out.now c.args.size c.requires.0 c.requires.1 left (omega arith) (omega arith) c.loop-left.invariant)

pub returns : goal.returns
returns c = copied_all c.args.s.now c.args.out.now c.args.size c.requires.0 c.requires.1 c.loop-left.left (omega arith) c.loop-left.invariant
