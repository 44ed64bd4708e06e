-- `encoding::LabelRecord::decimal` meets its contract: the digits are written into zeros.
use Prim.Native.Nat.{◌+◌}
use mathlib.Core.Path.{◌∙◌}
use native.Mathlib.Omega.{arith}
use Rattle.encoding.specs.Labels.{decimal_label}
use Rattle.encoding.proofs.Labels.{padded-written, decimal-short}
use Rattle.encoding.proofs.LabelRecord.decimal.Goals as goal

pub returns : goal.returns
unfolding decimal_label
returns c =
    let i = c.args.i in
    rw c.new.ensures (c.put_decimal.ensures.out_after ∙ padded-written _ (decimal-short (i + 1) (omega arith)))
