-- `refinement::refine_step` meets its contract: the step on lists of sets is that of the refinement rule. Assumes nothing.
use mathlib.Core.Path.{ap, ◌∙◌}
use mathlib.Core.Bool.{Bool, ◌&&◌}
use native.Mathlib.Omega.{arith}
use Rattle.rows.specs.Rows.{in_row}
use Rattle.rows.proofs.Rows.{row_of-cong}
use Rattle.sets.proofs.Lists.{set-in, sets-long}
use Rattle.refinement.proofs.Steps.{step-owning, step-fixed, step-made}
use Rattle.refinement.proofs.refine_step.Goals as goal

pub turn_of-turn-requires : goal.turn_of-turn-requires
turn_of-turn-requires c =
    let at = c.requires.1 in
    (omega (arith, at.begun.low, at.index.formed.states), omega (arith, at.index.wide), sets-long 256 _ at.begun.related-is, sets-long 256 _ at.begun.viewed-is, sets-long 256 _ at.begun.blocks_is)

pub set_rows-requires : goal.set_rows-requires
set_rows-requires c = sets-long 256 _ c.requires.1.begun.viewed-is

pub refine_actions-touched-requires : goal.refine_actions-touched-requires
refine_actions-touched-requires c =
    let at = c.requires.1 in
    (sets-long 256 _ at.begun.related-is, sets-long 256 _ at.begun.blocks_is, at.begun.parts, (c.requires.0, step-owning at, step-fixed at c.turn_of-turn.ensures (λ j. (c.type_inv.rows j).fits)))

pub returns : goal.returns
returns c =
    let turn = c.turn_of-turn.ensures in
    let all = c.args.all in
    λ t at. step-made at turn (c.refine_actions-touched.ensures.by_index t (step-owning at) (step-fixed at turn (λ j. (c.type_inv.rows j).fits))) c.set_rows.ensures
    (c.meet.ensures ∙ row_of-cong 4 _ _ (λ q h. ap (λ (x : Bool). x && in_row all q) (set-in _ c.join.ensures q h))) c.refine_actions-touched.ensures.parted
