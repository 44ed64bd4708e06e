-- `normal_form::write_labels` meets its contract: the loop has written the first i bytes.
use mathlib.Core.Path.{refl}
use Rattle.lts.proofs.Lists.{sets_more, sets-done}
use native.Mathlib.Omega.{arith}
use Rattle.normal_form.proofs.write_labels.Goals as goal

pub loop-i-init : goal.loop-i-init
loop-i-init c = refl

pub loop-i-preserved : goal.loop-i-preserved
loop-i-preserved c = rw c.loop-i.invariant (sets_more c.args.out.now 6 c.args.labels.now c.loop-i.i (omega arith))

pub returns : goal.returns
returns c = sets-done c.args.out.now 6 c.args.labels.now c.loop-i.i c.loop-i.invariant (omega arith)
