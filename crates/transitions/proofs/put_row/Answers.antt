-- `transitions::put_row` meets its contract: by the laws of `Emptying`. Assumes nothing.
use Prim.Native.Nat.{◌<◌, ◌^◌}
use mathlib.Core.Path.{◌∙◌}
use native.Mathlib.Omega.{arith}
use Rattle.transitions.proofs.Filling.{emptying-start, emptying-below, emptying-room, emptying-more, emptying-done}
use borrow.Author.Rules.{rules}
use Rattle.transitions.proofs.put_row.Goals.{In-Some}
use Rattle.transitions.proofs.put_row.Goals as goal

-- the lowest bit that is left
low : (c : In-Some) → c.in-Some.i < 64
low c =
    let (some, place, rest) = c.in-Some.ensures.steps.1 in
    rw place (emptying-below c.args.held.now c.requires.p_bound.3 c.loop-i.invariant some)

pub loop-i-init : goal.loop-i-init
loop-i-init c =
    let small : c.args.used < 2 ^ 64 = search rules in
    rw (c.into_iter-i-iterator.ensures.into_iter_gives, c.ones-i-items.ensures) (emptying-start c.args.held.now c.requires.p_bound.3 small c.requires.p_bound.2)

pub loop-i-preserved : goal.loop-i-preserved
loop-i-preserved c =
    let (some, place, rest) = c.in-Some.ensures.steps.1 in
    rw rest (emptying-more c.args.held.now c.requires.p_bound.3 c.loop-i.invariant some (rw place at c.put_action-at.ensures.value) (rw place at c.put_action-at.ensures.extends) (rw place at c.put.ensures))

pub put_action-at-requires : goal.put_action-at-requires
put_action-at-requires c =
    let l = c.loop-i.invariant in
    let (some, place, rest) = c.in-Some.ensures.steps.1 in
    let room = rw (← place) at (emptying-room c.args.held.now c.requires.p_bound.3 l some) in
    record { p_bound = (c.requires.p_bound.0, omega (arith, low (goal.at.put_action-at-requires c).In-Some), l.wrote.long ∙ c.requires.p_bound.1); a_bound = omega (arith, room, c.requires.p_bound_2) }

pub returns : goal.returns
returns c =
    let done = emptying-done c.args.held.now c.requires.p_bound.3 c.loop-i.invariant c.in-None.ensures.steps.1.0 in
    record { value = done.0; extends = done.1.0; held_after = done.1.1 }
