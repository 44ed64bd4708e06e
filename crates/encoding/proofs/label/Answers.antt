-- `encoding::label` meets its contract.
use Prim.Native.Nat.{◌+◌, ◌-◌}
use mathlib.Core.Path.{◌≡◌, ap, ◌∙◌}
use native.Mathlib.Omega.{arith}
use Rattle.encoding.specs.Labels.{decimal_label, label_in}
use Rattle.encoding.proofs.label.Goals as goal

pub returns-then-h : goal.returns-then-h
unfolding label_in
returns-then-h c = rw (c.label_record.ensures, c.if-h.true)

pub returns : goal.returns
unfolding label_in
returns c =
    let a = c.args.a in
    let at : a - 1 + 1 ≡ a = omega arith in
    rw c.if-h.false (c.decimal.ensures ∙ ap decimal_label at)
