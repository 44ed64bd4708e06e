-- `refinement::run` meets its contract: each step is one of the run, and the set of the pending representatives is right at each test. Assumes nothing.
use mathlib.Core.Path.{sym, ◌∙◌}
use Prim.Native.Nat.{◌<◌}
use native.Mathlib.Omega.{arith}
use Rattle.rows.proofs.Rows.{in_row-zeros}
use Rattle.transitions.specs.Table.{states_of}
use Rattle.sets.proofs.Lists.{sets-long}
use Rattle.refinement.specs.Engine.{Stepping}
use Rattle.refinement.proofs.Pending.{pending-kept, parted-minus}
use Rattle.refinement.proofs.Loop.{At, small-steps, parted-first, owned-first, pending-first, loop-below, loop-step, loop-next, end-steps, end-related, end-blocks}
use borrow.Author.Rules.{rules}
use Rattle.refinement.proofs.run.Goals.{In-loop-all, After-next_block-b}
use Rattle.refinement.proofs.run.Goals as goal

pub single_rows-alone-requires : goal.single_rows-alone-requires
single_rows-alone-requires c = sets-long 256 _ c.requires.5.blocks_is

pub update_pending-requires : goal.update_pending-requires
update_pending-requires c =
    let (t, start, ix, st, all-is, state) = c.requires in
    record {
      related_len = (sets-long 256 _ state.related-is, sets-long 256 _ state.viewed-is, sets-long 256 _ state.blocks_is, search rules);
      parted = (parted-minus _ _ (parted-first ix.formed st state all-is) c.single_rows-alone.ensures c.minus-shared.ensures, owned-first ix.formed st state all-is);
      by_index = pending-first ix.formed st state all-is _ (in_row-zeros 4);
    }

pub loop-all-init : goal.loop-all-init
loop-all-init c = λ t start ix st all-is state. record {
  state = state;
  pending-is = c.update_pending.ensures;
  parts = parted-minus _ _ (parted-first ix.formed st state all-is) c.single_rows-alone.ensures c.minus-shared.ensures;
}

-- where the loop stands at a turn, and what its step does, for the table that there is
at : (c : In-loop-all) → At c.requires.0 c.requires.1 c.args.schedule.now c.loop-all.steps c.loop-all.related c.loop-all.viewed c.loop-all.blocks c.loop-all.shared c.loop-all.pending
at c = let (t, start, ix, st, all-is, state) = c.requires in c.loop-all.invariant t start ix st all-is state

few : (c : In-loop-all) → c.loop-all.steps < 65536
few c =
    let (t, start, ix, st, all-is, state) = c.requires in
    small-steps (states_of t) c.loop-all.steps ix.formed.states (loop-below ix.formed st (at c).state (at c).pending-is (sym c.any_pending.ensures ∙ c.loop-all-test.true))

step : (c : After-next_block-b)
    → Stepping c.requires.0 c.args.places.now c.args.rows.now c.args.all c.next_block-b.result c.loop-all.related c.loop-all.viewed c.loop-all.blocks c.loop-all.shared
step c =
    let (t, start, ix, st, all-is, state) = c.requires in
    let now = at (goal.at.After-next_block-b c).In-loop-all in
    loop-step ix.formed st now.state now.pending-is (sym c.any_pending.ensures ∙ c.loop-all-test.true) _ c.next_block-b.ensures ix all-is now.parts

pub refine_step-touched-requires : goal.refine_step-touched-requires
refine_step-touched-requires c = (c.requires.0, step (goal.at.refine_step-touched-requires c).After-next_block-b)

pub single_rows-single-requires : goal.single_rows-single-requires
single_rows-single-requires c = sets-long 256 _ (c.refine_step-touched.ensures c.requires.0 (step (goal.at.single_rows-single-requires c).After-next_block-b)).blocks_is

pub update_pending-requires-in-loop-all : goal.update_pending-requires-in-loop-all
update_pending-requires-in-loop-all c =
    let made = c.refine_step-touched.ensures c.requires.0 (step (goal.at.update_pending-requires-in-loop-all c).After-next_block-b) in
    let now = at (goal.at.update_pending-requires-in-loop-all c).In-loop-all in
    record {
      related_len = (sets-long 256 _ made.related-is, sets-long 256 _ made.viewed-is, sets-long 256 _ made.blocks_is, search rules);
      parted = (parted-minus _ _ made.parts c.single_rows-single.ensures c.minus-rest.ensures, made.owned);
      by_index = pending-kept made now.pending-is;
    }

pub overflow_add-steps : goal.overflow_add-steps
overflow_add-steps c = omega (arith, few (goal.at.overflow_add-steps c).In-loop-all)

pub loop-all-smaller : goal.loop-all-smaller
loop-all-smaller c = omega (arith, few (goal.at.loop-all-smaller c).In-loop-all)

pub loop-all-preserved : goal.loop-all-preserved
loop-all-preserved c = λ t start ix st all-is state.
    let at = c.loop-all.invariant t start ix st all-is state in
    let some = sym c.any_pending.ensures ∙ c.loop-all-test.true in
    let chose = c.next_block-b.ensures in
    let made = c.refine_step-touched.ensures t (loop-step ix.formed st at.state at.pending-is some _ chose ix all-is at.parts) in
    record {
      state = loop-next ix.formed st at.state at.pending-is some _ chose made;
      pending-is = c.update_pending-in-loop-all.ensures;
      parts = parted-minus _ _ made.parts c.single_rows-single.ensures c.minus-rest.ensures;
    }

pub returns : goal.returns
returns c = λ t start ix st all-is state.
    let at = c.loop-all.invariant t start ix st all-is state in
    let none = sym c.any_pending.ensures ∙ c.loop-all-test.false in
    (end-steps ix.formed st at.state at.pending-is none, end-related ix.formed st at.state at.pending-is none, end-blocks ix.formed st at.state at.pending-is none)
