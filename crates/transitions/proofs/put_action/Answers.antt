-- `transitions::put_action` meets its contract: by the laws of `Writing`. Assumes nothing.
use Prim.Native.Nat.{◌≤◌, ◌<◌}
use mathlib.Core.Path.{◌≡◌}
use native.Mathlib.Omega.{arith}
use lib.ListN.{length}
use Rattle.rows.proofs.Rows.{part_length}
use Rattle.transitions.proofs.Filling.{writing_start, writing-room, writing_more, writing-done, next-held}
use borrow.Author.Rules.{rules}
use Rattle.transitions.proofs.put_action.Goals.{After-action_part-row, In-loop-t}
use Rattle.transitions.proofs.put_action.Goals as goal

-- an action has four words
row-long : (c : After-action_part-row) → 4 ≤ length c.action_part-row.result.now
row-long c =
    let l : length c.args.sets.now ≡ 260 = search rules in
    part_length c.args.sets.now c.args.a l c.requires.p_bound.1 c.action_part-row.ensures

-- the next target leaves room for its transition
room : (c : In-loop-t) → c.loop-t.at < 1024
room c =
    omega (arith, writing-room c.loop-t.invariant c.loop-t-test.true, c.requires.a_bound)

pub next_state-t-requires : goal.next_state-t-requires
next_state-t-requires c = (row-long c, search rules, search rules)

pub loop-t-init : goal.loop-t-init
loop-t-init c = writing_start _ (next-held _ _ c.action_part-row.ensures c.next_state-t.ensures)

pub put_transition-requires : goal.put_transition-requires
put_transition-requires c = (room (goal.at.put_transition-requires c).In-loop-t, search rules, search rules, search rules)

pub overflow_add-at : goal.overflow_add-at
overflow_add-at c = omega (arith, room (goal.at.overflow_add-at c).In-loop-t)

pub next_state-t-requires-in-loop-t : goal.next_state-t-requires-in-loop-t
next_state-t-requires-in-loop-t c = (row-long (goal.at.next_state-t-requires-in-loop-t c).After-action_part-row, search rules, search rules)

pub loop-t-smaller : goal.loop-t-smaller
loop-t-smaller c = omega (arith, c.next_state-t-in-loop-t.ensures.above, c.loop-t-test.true)

pub loop-t-preserved : goal.loop-t-preserved
loop-t-preserved c =
    rw c.put_transition.ensures (writing_more c.loop-t.invariant c.requires.p_bound.2 (room (goal.at.loop-t-preserved c).In-loop-t) c.loop-t-test.true (next-held _ _ c.action_part-row.ensures c.next_state-t-in-loop-t.ensures))

pub returns : goal.returns
returns c =
    let done = writing-done c.loop-t.invariant (search rules) in
    record { value = done.0; extends = done.1 }
