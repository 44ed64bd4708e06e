-- `store`: the bytes of the first i numbers are written, and the rest is as it was.
use mathlib.Core.Path.{◌≡◌, sym, ap, ◌∙◌}
use Prim.Native.Nat.{ℕ, ◌+◌, ◌-◌, ◌*◌}
use native.Mathlib.Nat.{mul-zero}
use native.Mathlib.Omega.{arith}
use lib.Seq.{drop-drop}
use Rattle.carry.specs.Carried.{digits, bytes_of}
use Rattle.carry.proofs.Laws.{bytes-more, bytes-done}
use Rattle.carry.proofs.Values.{values-length, values-at}
use Rattle.carry.proofs.store.Goals as goal

pub loop-i-init : goal.loop-i-init
unfolding bytes_of
loop-i-init g c = rw mul-zero

pub loop-i-preserved : goal.loop-i-preserved
loop-i-preserved g c =
    let m = g.T.Number in
    let each = g.met.T.Number.each in
    let k = g.row.K in
    let i = c.loop-i.i in
    let all = c.args.numbers.now in
    let part : k * i + k - k * i ≡ k = omega arith in
    let written = c.copy_from_slice.ensures.after ∙ c.to_bytes.ensures ∙ ap (λ (x : ℕ). digits k x)
    (ap m.value c.index-numbers-i.is ∙ sym (values-at m.value m.values each all i c.index-numbers-i.result (omega arith))) in
    bytes-more k i (m.values all) c.args.bytes.now c.loop-i.bytes c.loop-i.invariant _ (omega (arith, values-length m.value m.values each all))
    (rw (part, written, drop-drop))

pub returns : goal.returns
returns g c =
    let m = g.T.Number in
    bytes-done g.row.K c.loop-i.i (m.values c.args.numbers.now) c.args.bytes.now c.loop-i.bytes c.loop-i.invariant
    (omega (arith, values-length m.value m.values g.met.T.Number.each c.args.numbers.now))
