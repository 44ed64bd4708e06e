-- `strategy_write::write_from` meets its contract: the rounds before, and the last entry. Assumes nothing.
use mathlib.Core.Bool.{true}
use mathlib.Core.Path.{sym, ◌∙◌, ap, subst⁻¹}
use mathlib.Core.List.{List, ◌∷◌, []}
use Prim.Native.Nat.{ℕ, ◌*◌, ◌≤◌}
use lib.ListN.{length}
use lib.Seq.{sets, length-sets}
use Rattle.lts.specs.declared.Entry.{Entry}
use Rattle.lts.specs.Strategy.{entry_numbers, entries_before, strategy_length}
use Rattle.transitions.specs.Table.{states_of, table_lts}
use Rattle.relation.specs.Matrix.{relation_of, matrix_of, Matrix}
use Rattle.relation.proofs.Matrices.{formed-of, length-matrix_of}
use Rattle.strategy_write.proofs.Rounds.{from_start, room-before, room-last, last-unanswered, strategy-written}
use Rattle.strategy_write.proofs.write_from.Goals as goal

pub write_all_pairs-requires : goal.write_all_pairs-requires
write_all_pairs-requires c = rw c.states.ensures.0 (c.requires.fact.0.states, c.requires.current_len.0 ∙ c.requires.fact.1.long)

pub write_rounds-at-requires : goal.write_rounds-at-requires
write_rounds-at-requires c = let t = c.args.table.now in
    let n = states_of t in
    let copy = c.copy_matrix.ensures in record {
      formed = (c.requires.fact.0, subst⁻¹ (Matrix n) copy c.requires.fact.1, c.write_all_pairs.ensures ∙ ap (λ (k : ℕ). matrix_of k (λ p q. true)) c.states.ensures.0);
      rounds_in_bounds = subst⁻¹ (λ (l : List ℕ). 4 * length (entries_before (table_lts t) (relation_of n l) c.args.round) ≤ length c.args.numbers.now) copy
          (room-before t (relation_of n c.args.start.now) c.requires.fact.0 c.args.p c.args.q c.args.round c.requires.fact.4 c.requires.fact.5 c.requires.fact.6);
    }

pub entry_from-requires-clause-fact : goal.entry_from-requires-clause-fact
entry_from-requires-clause-fact c =
    (c.requires.fact.0, formed-of _ _ c.write_rounds-at.ensures.looked, c.requires.fact.2, c.requires.fact.3)

pub entry_from-requires-clause-q_value : goal.entry_from-requires-clause-q_value
entry_from-requires-clause-q_value c = let t = c.args.table.now in
    let w = from_start c.copy_matrix.ensures c.write_rounds-at.ensures in
    last-unanswered t (relation_of (states_of t) c.args.start.now) c.requires.fact.0 c.args.p c.args.q c.args.round c.requires.fact.4 c.requires.fact.5 w.looked

pub put_entry-requires : goal.put_entry-requires
put_entry-requires c = let t = c.args.table.now in
    let L = table_lts t in
    let R = relation_of (states_of t) c.args.start.now in
    let w = from_start c.copy_matrix.ensures c.write_rounds-at.ensures in
    let size = ap length w.written ∙ length-sets c.args.numbers.now 0 (entry_numbers (entries_before L R c.args.round)) in
    room-last t R c.requires.fact.0 c.args.p c.args.q c.args.round c.requires.fact.4 c.requires.fact.5
    (subst⁻¹ (λ (x : ℕ). 4 * strategy_length L R c.args.p c.args.q ≤ x) size c.requires.fact.6) w.place

pub shape_of-current : goal.shape_of-current
shape_of-current c = ap length c.write_rounds-at.ensures.looked ∙ length-matrix_of _ _ ∙ sym c.requires.fact.1.long ∙ sym c.requires.current_len.0

pub returns : goal.returns
returns c = let t = c.args.table.now in
    let w = from_start c.copy_matrix.ensures c.write_rounds-at.ensures in
    strategy-written t (relation_of (states_of t) c.args.start.now) c.requires.fact.0 c.args.p c.args.q c.args.round c.requires.fact.4 c.requires.fact.5
    c.args.numbers.now w.looked c.requires.fact.6 w.place w.written (c.put_entry.ensures ∙ ap (λ (e : Entry). sets c.write_rounds-at.new.numbers (4 * c.write_rounds-at.result) (entry_numbers (e ∷ []))) c.entry_from.ensures)
