-- `labels::match_labels` meets its contract: one action of the second sheet more each turn.
use Prim.Native.Nat.{ℕ}
use mathlib.Core.Path.{◌≡◌, subst, sym, ap, ◌∙◌}
use mathlib.Core.List.{List}
use native.Mathlib.Omega.{arith}
use lib.ListN.{length, length-set}
use Rattle.encoding.specs.Labels.{labels_in}
use Rattle.labels.proofs.Maps.{Matching, matching-none, match-old, match-new}
use Rattle.labels.proofs.Labels.{label-next, labels-whole}
use Rattle.encoding.proofs.Labels.{labels_length_lem}
use Rattle.encoding.proofs.Laws.{sheet-labels}
use Rattle.lts.specs.Labels.{joined_labels}
use Rattle.labels.specs.Maps.{Matches}
use Rattle.labels.proofs.match_labels.Goals as goal
use Rattle.labels.proofs.match_labels.Goals.{then-place-lt64, else-place-lt64}

pub loop-i-init : goal.loop-i-init
loop-i-init c = record {
  counted = omega arith;
  long = c.requires.1;
  matching = λ A has m. subst (λ (k : ℕ). Matching A (labels_in c.args.s.now c.args.h) 0 k c.args.to.now) (sym m) (matching-none A _ c.requires.1);
}

pub returns : goal.returns
returns c =
    let all : c.loop-i.i ≡ c.args.h.actions = omega arith in record {
      by_index = λ A has m.
          (c.loop-i.invariant.matching A has m).counted
          ∙ ap (λ (B : List (List ℕ)). length (joined_labels A B)) (labels-whole c.args.s.now c.args.h c.loop-i.i (omega arith));
      by_index_2 = λ A has m. subst (λ (k : ℕ). Matches A (labels_in c.args.s.now c.args.h) k c.loop-i.to) all (c.loop-i.invariant.matching A has m).numbers;
    }

pub loop-i-preserved : goal.loop-i-preserved
loop-i-preserved c =
    let B = labels_in c.args.s.now c.args.h in
    let n = labels_length_lem c.args.s.now c.args.h in
    let few = c.requires.0.recorded.sized.bounds.actions in
    let read = label-next c.args.s.now c.args.h c.loop-i.i (omega arith) c.label.ensures in
    elim c.if-place-lt64.branch [
      | then-place-lt64 w ↦ record {
        counted = omega (arith, w.count-is);
        long = rw (w.to-is, length-set) c.loop-i.invariant.long;
        matching = λ A has m. match-old A B has.few c.loop-i.i (omega (arith, n)) (omega (arith, few)) read (c.find_label-place.ensures A has) (c.loop-i.invariant.matching A has m) w.if-place-lt64.true w.to-is w.count-is;
      }
      | else-place-lt64 w ↦ record {
        counted = omega (arith, w.count-is);
        long = rw (w.to-is, length-set) c.loop-i.invariant.long;
        matching = λ A has m. match-new A B has.few c.loop-i.i (omega (arith, n)) (omega (arith, few)) read (c.find_label-place.ensures A has) (c.loop-i.invariant.matching A has m) (sheet-labels c.args.s.now c.args.h c.requires.0).once w.if-place-lt64.false w.to-is w.count-is;
      }
    ]
