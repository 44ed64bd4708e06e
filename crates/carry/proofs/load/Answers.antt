-- `load`: the first i numbers are read, and the rest is as it was.
use mathlib.Core.Path.{refl, ap, ◌∙◌}
use Prim.Native.Nat.{◌/◌, ◌<◌}
use native.Mathlib.Omega.{arith}
use lib.ListN.{length}
use Rattle.carry.specs.Carried.{number_of, numbers_of}
use Rattle.carry.proofs.Laws.{numbers_more, numbers-done}
use Rattle.carry.proofs.Values.{values-length, values-set, part-at}
use Rattle.carry.proofs.load.Goals as goal

pub loop-i-init : goal.loop-i-init
unfolding numbers_of
loop-i-init g c = refl

pub loop-i-preserved : goal.loop-i-preserved
loop-i-preserved g c =
    let m = g.T.Number in
    let each = g.met.T.Number.each in
    let k = g.row.K in
    let i = c.loop-i.i in
    let bytes = c.args.bytes.now in
    let old = c.args.numbers.now in
    let room : i < length bytes / k = omega (arith, c.as_chunks.ensures.front_len) in
    let chunk = part-at k (length bytes / k) i bytes c.as_chunks.ensures.front room c.index-chunks-i.is in
    values-set m.value m.values each c.loop-i.numbers i c.from_bytes.result
    ∙ numbers_more k i bytes (m.values old) (m.values c.loop-i.numbers) c.loop-i.invariant (m.value c.from_bytes.result)
    (omega (arith, room, values-length m.value m.values each old, c.requires))
    (c.from_bytes.ensures ∙ ap number_of chunk)

pub returns : goal.returns
returns g c =
    let m = g.T.Number in
    numbers-done g.row.K c.loop-i.i c.args.bytes.now (m.values c.args.numbers.now) (m.values c.loop-i.numbers) c.loop-i.invariant
    (omega (arith, c.as_chunks.ensures.front_len))
