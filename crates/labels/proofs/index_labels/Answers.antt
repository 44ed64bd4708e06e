-- `labels::index_labels` meets its contract: one label more each turn.
use mathlib.Core.Path.{refl, sym}
use native.Mathlib.Omega.{arith}
use lib.ListN.{take}
use lib.Seq.{length-take-le}
use Rattle.encoding.specs.Labels.{labels_in}
use Rattle.encoding.proofs.Labels.{labels_length_lem}
use Rattle.labels.proofs.Index.{indexed-none}
use Rattle.labels.proofs.Labels.{indexed-next, indexed-all}
use Rattle.labels.proofs.index_labels.Goals as goal

pub loop-i-init : goal.loop-i-init
loop-i-init c = indexed-none 512 refl

pub add_label-requires : goal.add_label-requires
add_label-requires c =
    let n = labels_length_lem c.args.s.now c.args.h in
    let few = c.requires.recorded.sized.bounds.actions in
    (omega (arith, few), (take c.loop-i.i (labels_in c.args.s.now c.args.h), c.loop-i.invariant, sym (length-take-le c.loop-i.i (labels_in c.args.s.now c.args.h) (omega (arith, n)))))

pub loop-i-preserved : goal.loop-i-preserved
loop-i-preserved c =
    let L = labels_in c.args.s.now c.args.h in
    let n = labels_length_lem c.args.s.now c.args.h in
    let had = c.add_label.ensures (take c.loop-i.i L) c.loop-i.invariant (sym (length-take-le c.loop-i.i L (omega (arith, n)))) in
    indexed-next c.args.s.now c.args.h c.loop-i.i (omega arith) c.label.ensures had

pub returns : goal.returns
returns c = indexed-all c.args.s.now c.args.h c.loop-i.i (omega arith) c.loop-i.invariant
