-- `labels::put_new` meets its contract: each new label behind those before it.
use Prim.Native.Nat.{ℕ, ◌+◌}
use mathlib.Core.Path.{subst, sym, ap, ◌∙◌, subst⁻¹}
use mathlib.Core.List.{List}
use native.Mathlib.Omega.{arith}
use lib.ListN.{take}
use Rattle.lts.specs.Labels.{joined_labels}
use Rattle.encoding.specs.Labels.{labels_in, labels_bytes}
use Rattle.labels.specs.Maps.{Begins}
use Rattle.labels.proofs.Labels.{label-next, labels-whole}
use Rattle.encoding.proofs.Labels.{labels_length_lem}
use Rattle.encoding.proofs.Bytes.{label-sixteen}
use Rattle.encoding.proofs.Laws.{sheet-labels}
use Rattle.labels.proofs.Bytes.{begins-new, begins-old, number-low}
use Rattle.lts.proofs.Labels.{joined-none}
use Rattle.labels.proofs.put_new.Goals as goal
use Rattle.labels.proofs.put_new.Goals.{then-m-a, else-m-a}

pub loop-i-init : goal.loop-i-init
loop-i-init c = λ A j. subst (Begins _) (ap labels_bytes (sym (joined-none A (labels_in c.args.s.now c.args.h)))) j.front

pub put-requires : goal.put-requires
put-requires c =
    let j = c.requires.1.1 in
    let n = labels_length_lem c.args.s.now c.args.h in
    let number = c.wide-a.ensures.0 ∙ j.matches.action (c.loop-i.i + 1) (omega arith) (omega (arith, n)) in
    let once = (sheet-labels c.args.s.now c.args.h c.requires.0).once in
    let low = number-low c.requires.1.0 (labels_in c.args.s.now c.args.h) once c.loop-i.i (omega (arith, n)) number j.few in
    omega (arith, low.0, low.1)

pub returns : goal.returns
returns c = λ A j.
    subst (λ (J : List (List ℕ)). Begins c.loop-i.out (labels_bytes (joined_labels A J))) (labels-whole c.args.s.now c.args.h c.loop-i.i (omega arith)) (c.loop-i.invariant A j)

pub loop-i-preserved : goal.loop-i-preserved
loop-i-preserved c =
    let B = labels_in c.args.s.now c.args.h in
    let n = labels_length_lem c.args.s.now c.args.h in
    let once = (sheet-labels c.args.s.now c.args.h c.requires.0).once in
    let each = label-sixteen c.args.s.now c.args.h in
    let wide = c.wide-a.ensures.0 in
    elim c.if-m-a.branch [
      | then-m-a w ↦ λ A j.
          let e = w.out-is ∙ w.put.ensures in
          let number = wide ∙ j.matches.action (c.loop-i.i + 1) (omega arith) (omega (arith, n)) in
          let low = number-low A B once c.loop-i.i (omega (arith, n)) number j.few in
          subst⁻¹ (λ (x : List ℕ). Begins x (labels_bytes (joined_labels A (take (c.loop-i.i + 1) B)))) e
          (begins-new A B once c.loop-i.i (omega (arith, n)) number j.each each (c.loop-i.invariant A j) (omega (arith, j.count, w.if-m-a.true))
          (label-next c.args.s.now c.args.h c.loop-i.i (omega arith) w.label-label.ensures) (omega (arith, low.0, low.1, j.long)))
      | else-m-a w ↦ λ A j.
          let number = wide ∙ j.matches.action (c.loop-i.i + 1) (omega arith) (omega (arith, n)) in
          subst⁻¹ (λ (x : List ℕ). Begins x (labels_bytes (joined_labels A (take (c.loop-i.i + 1) B)))) w.out-is
          (begins-old A B once c.loop-i.i (omega (arith, n)) number j.each each (c.loop-i.invariant A j) (omega (arith, j.count, w.if-m-a.false)))
    ]
