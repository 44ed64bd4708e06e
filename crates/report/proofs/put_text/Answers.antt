-- `put_text`: the text is put in the middle of the buffer.
use Prim.Native.Nat.{◌+◌, ◌-◌}
use mathlib.Core.Path.{◌≡◌}
use mathlib.Core.List.{append_assoc}
use native.Mathlib.Omega.{arith}
use lib.ListN.{length}
use lib.Seq.{drop-drop}
use Rattle.report.specs.Decimal.{written}
use Rattle.report.proofs.put_text.Goals as goal

pub returns-clause-out_after : goal.returns-clause-out_after
unfolding written
returns-clause-out_after c =
    let at = c.args.at in
    let n = length c.args.text.now in
    let e : at + n - at ≡ n = omega arith in
    rw (e, c.copy_from_slice.ensures.after, drop-drop, append_assoc)
