-- `refinement::refine_actions` meets its contract: by `Going`, over the bits of the word of actions. Assumes nothing.
use mathlib.Core.Path.{◌∙◌}
use native.Mathlib.Omega.{arith}
use Rattle.refinement.proofs.Actions.{going-begin, going_next, going_end, next-most}
use Rattle.std.proofs.Common.{rules}
use Rattle.refinement.proofs.refine_actions.Goals as goal

pub loop-i-init : goal.loop-i-init
loop-i-init c =
    λ t own fixed. (
      0,
      rw (c.into_iter-i-iterator.ensures.into_iter_gives, c.ones-i-items.ensures)
          (going-begin c.args.related.now c.args.blocks.now fixed c.requires.0 c.requires.1 (λ j. search rules) (λ j. search rules) c.requires.2 own _),
    )

pub refine_action-changed-requires : goal.refine_action-changed-requires
refine_action-changed-requires c =
    let (t, own, fixed) = c.requires.3 in
    let now = (c.loop-i.invariant t own fixed).1 in
    let most = next-most c.args.related.now c.args.blocks.now fixed now c.in-Some.ensures.steps.1 in
    (c.loop-i.auto.related ∙ c.requires.0, c.loop-i.auto.blocks ∙ c.requires.1, now.parts, (t, fixed.index, omega arith, most, now.own))

pub loop-i-preserved : goal.loop-i-preserved
loop-i-preserved c = λ t own fixed.
    let step = c.in-Some.ensures.steps.1 in
    let now = (c.loop-i.invariant t own fixed).1 in
    let most = next-most c.args.related.now c.args.blocks.now fixed now step in
    let act = c.refine_action-changed.ensures in
    (_, going_next c.args.related.now c.args.blocks.now fixed now step (act.by_index t fixed.index most fixed.covers) act.parted c.join-next.ensures)

pub returns : goal.returns
returns c =
    let (t, own, fixed) = c.requires.3 in
    let none = c.in-None.ensures.steps.1.0 in
    record {
      by_index = λ t own fixed. going_end c.args.related.now c.args.blocks.now fixed (c.loop-i.invariant t own fixed).1 none;
      parted = (c.loop-i.invariant t own fixed).1.parts;
    }
