-- `strategy_write::write_round` meets its contract: row by row. Assumes nothing.
use Prim.Native.Nat.{ℕ, ◌+◌, ◌*◌, ◌≤◌, ◌<◌}
use mathlib.Core.Path.{◌≡◌, ◌∙◌, ap, subst⁻¹}
use mathlib.Core.List.{List}
use native.Mathlib.Omega.{arith}
use lib.ListN.{length}
use lib.Seq.{sets}
use Rattle.lts.specs.Bounded.{concat_below}
use Rattle.lts.specs.declared.Entry.{Entry}
use Rattle.lts.specs.Strategy.{entry_numbers}
use Rattle.transitions.specs.Table.{states_of}
use Rattle.strategy_write.specs.Writing.{pairs_of}
use Rattle.strategy_write.proofs.Writes.{written_none, at_none, at_more, written-more, room_next, same_size, round_is}
use Rattle.strategy_write.proofs.write_round.Invariants.{rows}
use Rattle.strategy_write.proofs.write_round.Goals as goal

pub loop-p-init : goal.loop-p-init
loop-p-init c = let F = rows c.args.step.now.table.now c.args.step.now.before.now c.args.step.now.after.now c.args.step.now.initial in
    (at_none c.args.numbers.now c.args.first F, written_none c.args.numbers.now c.args.first F)

pub write_row-at-requires : goal.write_row-at-requires
write_row-at-requires c = let t = c.args.step.now.table.now in
    let l = c.loop-p.invariant in
    let below : c.loop-p.p < states_of t = omega (arith, c.loop-p-test.true, c.states-n.ensures.0) in record {
      consecutive = (c.requires.consecutive, below);
      es_in_bounds = room_next c.args.numbers.now c.args.first (rows t c.args.step.now.before.now c.args.step.now.after.now c.args.step.now.initial) _ (states_of t) below l.0 l.1
          (subst⁻¹ (λ (x : List Entry). 4 * (c.args.first + length x) ≤ length c.args.numbers.now) (round_is t c.args.step.now.initial (pairs_of t c.args.step.now.before.now) (pairs_of t c.args.step.now.after.now)) c.requires.es_in_bounds);
    }

pub loop-p-preserved : goal.loop-p-preserved
loop-p-preserved c = let l = c.loop-p.invariant in
    let F = rows c.args.step.now.table.now c.args.step.now.before.now c.args.step.now.after.now c.args.step.now.initial in (
      at_more c.args.numbers.now c.args.first F _ l.0 c.write_row-at.ensures.result_value,
      written-more c.args.numbers.now c.args.first F _ l.1 l.0 c.write_row-at.ensures.numbers_after,
    )

pub shape_of-numbers : goal.shape_of-numbers
shape_of-numbers c = same_size c.args.numbers.now c.args.first (rows c.args.step.now.table.now c.args.step.now.before.now c.args.step.now.after.now c.args.step.now.initial) _ c.loop-p.invariant.1

pub returns : goal.returns
returns c = let t = c.args.step.now.table.now in
    let l = c.loop-p.invariant in
    let end : c.loop-p.p ≡ states_of t = omega (arith, c.loop-p-test.false, c.states-n.ensures.0) in
    let list = ap (λ (i : ℕ). concat_below i (rows t c.args.step.now.before.now c.args.step.now.after.now c.args.step.now.initial)) end
    ∙ round_is t c.args.step.now.initial (pairs_of t c.args.step.now.before.now) (pairs_of t c.args.step.now.after.now) in
    record { result_value = l.0 ∙ ap (λ (x : List Entry). c.args.first + length x) list; numbers_after = l.1 ∙ ap (λ (x : List Entry). sets c.args.numbers.now (4 * c.args.first) (entry_numbers x)) list }
