-- `labels::put_labels` meets its contract: one label more each turn.
use Prim.Native.Nat.{ℕ}
use mathlib.Core.Path.{◌≡◌, ap, ◌∙◌}
use mathlib.Core.List.{List}
use native.Mathlib.Omega.{arith}
use lib.ListN.{length, take}
use lib.Seq.{sets, length-take-le}
use Rattle.encoding.specs.Labels.{labels_in, labels_bytes}
use Rattle.encoding.proofs.Labels.{labels_length_lem}
use Rattle.encoding.proofs.Bytes.{label-sixteen}
use Rattle.labels.proofs.Labels.{labels_next, labels-whole}
use Rattle.labels.proofs.Bytes.{put-none, put-more, take-sixteen}
use Rattle.labels.proofs.put_labels.Goals as goal

pub loop-i-init : goal.loop-i-init
loop-i-init c = put-none _ _

pub loop-i-preserved : goal.loop-i-preserved
loop-i-preserved c =
    let L = labels_in c.args.s.now c.args.h in
    let n = labels_length_lem c.args.s.now c.args.h in
    let put = c.put.ensures in
    let next = labels_next c.args.s.now c.args.h c.loop-i.i (omega arith) c.label-label.ensures in
    let each = take-sixteen L c.loop-i.i (omega (arith, n)) (label-sixteen c.args.s.now c.args.h) in
    let long : length (take c.loop-i.i L) ≡ c.loop-i.i = length-take-le c.loop-i.i L (omega (arith, n)) in
    let step = put-more c.args.out.now c.args.at (take c.loop-i.i L) c.loop-i.i c.label-label.result.bytes each long c.loop-i.invariant in
    put ∙ step ∙ ap (λ (J : List (List ℕ)). sets c.args.out.now c.args.at (labels_bytes J)) next

pub returns : goal.returns
returns c =
    let all = labels-whole c.args.s.now c.args.h c.loop-i.i (omega arith) in
    c.loop-i.invariant ∙ ap (λ (J : List (List ℕ)). sets c.args.out.now c.args.at (labels_bytes J)) all
