-- `strategy_write::write_rounds` meets its contract: by the laws of `Progress`. Assumes nothing.
use Prim.Native.Nat.{ℕ}
use mathlib.Core.Path.{◌≡◌, sym, ◌∙◌, ap, subst, subst⁻¹}
use mathlib.Core.List.{List}
use native.Mathlib.Omega.{arith}
use lib.ListN.{length}
use lib.Seq.{length-sets}
use Rattle.lts.specs.Strategy.{entry_numbers, entries_before}
use Rattle.rows.specs.Rows.{in_row}
use Rattle.transitions.specs.Table.{states_of, table_lts}
use Rattle.relation.specs.Matrix.{relation_of}
use Rattle.relation.proofs.Matrices.{formed-of, length-matrix_of}
use Rattle.strategy_rounds.specs.Rounds.{Settled}
use Rattle.strategy_write.specs.Writing.{WrittenBefore}
use Rattle.strategy_write.proofs.Progress.{progress-none, progress-rounds, progress-room, progress-more}
use borrow.Author.Rules.{rules}
use Rattle.strategy_write.proofs.write_rounds.Goals as goal

pub loop-i-init : goal.loop-i-init
loop-i-init c = progress-none c.args.table.now c.requires.formed.0 c.args.next.now c.args.numbers.now c.requires.formed.1 (λ j. search rules) c.requires.formed.2

pub write_round-at-requires : goal.write_round-at-requires
write_round-at-requires c = let l = c.loop-i.invariant in
    let t = c.args.table.now in
    record { consecutive = progress-rounds t c.requires.formed.0 c.args.next.now c.args.numbers.now l; es_in_bounds = progress-room t c.requires.formed.0 c.args.next.now c.args.numbers.now l c.loop-i-test.true c.requires.rounds_in_bounds }

pub copy_matrix-requires : goal.copy_matrix-requires
copy_matrix-requires c = let l = c.loop-i.invariant in ap length l.here ∙ length-matrix_of _ _ ∙ sym (ap length l.done.looked ∙ length-matrix_of _ _)

pub next_round-requires : goal.next_round-requires
next_round-requires c = let t = c.args.table.now in
    let l = c.loop-i.invariant in
    let copy = c.copy_matrix.ensures in
    let settled = subst⁻¹ (λ (g : List ℕ). Settled t (relation_of (states_of t) g) (in_row c.loop-i.settled)) copy l.settles in
    record { formed = (c.requires.formed.0, formed-of _ _ (copy ∙ l.here), ap length copy); settled = settled }

pub same_rows-settled-requires : goal.same_rows-settled-requires
same_rows-settled-requires c = rw c.states-n.ensures.0 (formed-of _ _ (c.copy_matrix.ensures ∙ c.loop-i.invariant.here), formed-of _ _ c.next_round.ensures, c.requires.formed.0.states)

pub loop-i-preserved : goal.loop-i-preserved
loop-i-preserved c =
    progress-more c.args.table.now c.requires.formed.0 c.args.next.now c.args.numbers.now c.loop-i.invariant c.states-n.ensures.0 c.write_round-at.ensures.result_value c.write_round-at.ensures.numbers_after
    c.copy_matrix.ensures c.next_round.ensures c.same_rows-settled.ensures

pub shape_of-current : goal.shape_of-current
shape_of-current c = ap length c.loop-i.invariant.done.looked ∙ length-matrix_of _ _ ∙ sym (ap length c.requires.formed.2 ∙ length-matrix_of _ _)

pub shape_of-next : goal.shape_of-next
shape_of-next c = ap length c.loop-i.invariant.here ∙ length-matrix_of _ _ ∙ sym c.requires.formed.1.long

pub shape_of-numbers : goal.shape_of-numbers
shape_of-numbers c = let t = c.args.table.now in
    ap length c.loop-i.invariant.done.written ∙ length-sets c.args.numbers.now 0 (entry_numbers (entries_before (table_lts t) (relation_of (states_of t) c.args.next.now) c.loop-i.i))

pub returns : goal.returns
returns c = let end : c.loop-i.i ≡ c.args.rounds = omega (arith, c.loop-i-test.false) in
    subst (λ (i : ℕ). WrittenBefore c.args.table.now c.args.next.now c.args.numbers.now i c.loop-i.at c.loop-i.current c.loop-i.numbers) end c.loop-i.invariant.done
