-- `strategy_write::write_row` meets its contract: a row that is as it was has no entries, and another is written cell by cell. Assumes nothing.
use Prim.Native.Nat.{ℕ, ◌+◌, ◌*◌, ◌≤◌, ◌<◌}
use mathlib.Core.Path.{◌≡◌, sym, ◌∙◌, ap, subst⁻¹}
use mathlib.Core.List.{List}
use native.Mathlib.Omega.{arith}
use lib.ListN.{length, drop}
use lib.Seq.{sets}
use Rattle.lts.specs.Bounded.{concat_below}
use Rattle.lts.specs.declared.Entry.{Entry}
use Rattle.lts.specs.Strategy.{entry_numbers}
use Rattle.rows.specs.Rows.{row_words}
use Rattle.transitions.specs.Table.{states_of}
use Rattle.relation.proofs.Matrices.{row-long}
use Rattle.strategy_write.specs.Writing.{pairs_of}
use Rattle.strategy_write.proofs.Writes.{written_none, at_none, at_more, written-more, room_next, same_size, row_is, row_same, row-skips}
use Rattle.strategy_write.proofs.write_row.Invariants.{cells}
use Rattle.strategy_write.proofs.write_row.Goals as goal

pub row_at-requires : goal.row_at-requires
row_at-requires c = rw c.states-n.ensures.0 (c.requires.consecutive.0.before.long, c.requires.consecutive.0.formed.states, c.requires.consecutive.1)

pub row_at-requires-2 : goal.row_at-requires-2
row_at-requires-2 c = rw c.states-n.ensures.0 (c.requires.consecutive.0.after.long, c.requires.consecutive.0.formed.states, c.requires.consecutive.1)

pub row_differs-requires : goal.row_differs-requires
row_differs-requires c = let n = states_of c.args.step.now.table.now in
    let e = c.states-n.ensures.0 in
    rw (c.row_words.ensures, e) (
      subst⁻¹ (λ (l : List ℕ). row_words n ≤ length l) (c.row_at.ensures ∙ ap (λ (k : ℕ). drop (c.args.p * row_words k) c.args.step.now.before.now) e) (row-long n c.args.step.now.before.now c.requires.consecutive.1 c.requires.consecutive.0.before.long),
      subst⁻¹ (λ (l : List ℕ). row_words n ≤ length l) (c.row_at-2.ensures ∙ ap (λ (k : ℕ). drop (c.args.p * row_words k) c.args.step.now.after.now) e) (row-long n c.args.step.now.after.now c.requires.consecutive.1 c.requires.consecutive.0.after.long),
    )

pub returns-then-not-row_differs : goal.returns-then-not-row_differs
returns-then-not-row_differs c = let h = row-skips c.args.numbers.now c.args.first
    (row_same c.args.step.now.table.now c.args.step.now.initial c.args.step.now.before.now c.args.step.now.after.now c.args.p c.requires.consecutive.0.before c.requires.consecutive.0.after c.requires.consecutive.1
    c.states-n.ensures.0 c.row_words.ensures c.row_at.ensures c.row_at-2.ensures (sym c.row_differs.ensures ∙ c.if-not-row_differs.true)) in
    record { result_value = h.0; numbers_after = h.1 }

pub loop-q-init : goal.loop-q-init
loop-q-init c = let F = cells c.args.step.now.table.now c.args.step.now.before.now c.args.step.now.after.now c.args.step.now.initial c.args.p in
    (at_none c.args.numbers.now c.args.first F, written_none c.args.numbers.now c.args.first F)

pub write_cell-at-requires : goal.write_cell-at-requires
write_cell-at-requires c = let t = c.args.step.now.table.now in
    let l = c.loop-q.invariant in
    let F = cells t c.args.step.now.before.now c.args.step.now.after.now c.args.step.now.initial c.args.p in
    let below : c.loop-q.q < states_of t = omega (arith, c.loop-q-test.true, c.states-n.ensures.0) in record {
      consecutive = (c.requires.consecutive.0, c.requires.consecutive.1, below);
      es_in_bounds = room_next c.args.numbers.now c.args.first F _ (states_of t) below l.0 l.1
          (subst⁻¹ (λ (x : List Entry). 4 * (c.args.first + length x) ≤ length c.args.numbers.now) (row_is t c.args.step.now.initial (pairs_of t c.args.step.now.before.now) (pairs_of t c.args.step.now.after.now) c.args.p) c.requires.es_in_bounds);
    }

pub loop-q-preserved : goal.loop-q-preserved
loop-q-preserved c = let l = c.loop-q.invariant in
    let F = cells c.args.step.now.table.now c.args.step.now.before.now c.args.step.now.after.now c.args.step.now.initial c.args.p in (
      at_more c.args.numbers.now c.args.first F _ l.0 c.write_cell-at.ensures.result_value,
      written-more c.args.numbers.now c.args.first F _ l.1 l.0 c.write_cell-at.ensures.numbers_after,
    )

pub shape_of-numbers : goal.shape_of-numbers
shape_of-numbers c = same_size c.args.numbers.now c.args.first (cells c.args.step.now.table.now c.args.step.now.before.now c.args.step.now.after.now c.args.step.now.initial c.args.p) _ c.loop-q.invariant.1

pub returns : goal.returns
returns c = let t = c.args.step.now.table.now in
    let l = c.loop-q.invariant in
    let end : c.loop-q.q ≡ states_of t = omega (arith, c.loop-q-test.false, c.states-n.ensures.0) in
    let list = ap (λ (i : ℕ). concat_below i (cells t c.args.step.now.before.now c.args.step.now.after.now c.args.step.now.initial c.args.p)) end
    ∙ row_is t c.args.step.now.initial (pairs_of t c.args.step.now.before.now) (pairs_of t c.args.step.now.after.now) c.args.p in
    record { result_value = l.0 ∙ ap (λ (x : List Entry). c.args.first + length x) list; numbers_after = l.1 ∙ ap (λ (x : List Entry). sets c.args.numbers.now (4 * c.args.first) (entry_numbers x)) list }
