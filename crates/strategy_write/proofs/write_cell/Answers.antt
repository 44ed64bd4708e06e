-- `strategy_write::write_cell` meets its contract: one entry, or none. Assumes nothing.
use Prim.Native.Nat.{◌*◌}
use mathlib.Core.Path.{◌≡◌, sym, ◌∙◌, ap}
use mathlib.Core.Bool.{not, ◌&&◌}
use mathlib.Core.List.{List, ◌∷◌, []}
use native.Mathlib.Omega.{arith}
use lib.Seq.{sets}
use Rattle.lts.specs.declared.Entry.{Entry}
use Rattle.lts.specs.Strategy.{entry_numbers}
use Rattle.transitions.specs.Table.{table_lts}
use Rattle.strategy_write.specs.Writing.{pairs_of}
use Rattle.strategy_write.proofs.Writes.{leaves-is, cell-next, cell-none, cell-empty, cell-leaves, leaves-unanswered}
use Rattle.strategy_write.proofs.write_cell.Goals.{After-relates-2}
use Rattle.strategy_write.proofs.write_cell.Goals as goal

pub relates-requires : goal.relates-requires
relates-requires c = rw c.states-n.ensures.0 (c.requires.consecutive.0.before.long, c.requires.consecutive.0.formed.states, c.requires.consecutive.1, c.requires.consecutive.2)

pub relates-requires-2 : goal.relates-requires-2
relates-requires-2 c = rw c.states-n.ensures.0 (c.requires.consecutive.0.after.long, c.requires.consecutive.0.formed.states, c.requires.consecutive.1, c.requires.consecutive.2)

-- the test of the pair
test : (c : After-relates-2) → let a = c.args in
    pairs_of a.step.now.table.now a.step.now.before.now a.p a.q && not (pairs_of a.step.now.table.now a.step.now.after.now a.p a.q) ≡ c.relates.result && not c.relates-2.result
test c =
    sym (leaves-is c.args.step.now.table.now c.args.step.now.before.now c.args.step.now.after.now c.args.p c.args.q c.requires.consecutive.1 c.requires.consecutive.2 c.states-n.ensures.0 c.relates.ensures c.relates-2.ensures)

pub entry_from-requires-clause-q_value : goal.entry_from-requires-clause-q_value
entry_from-requires-clause-q_value c =
    leaves-unanswered _ _ _ _ c.args.p c.args.q c.requires.consecutive.0.follows (test (goal.at.entry_from-requires-clause-q_value c).After-relates-2 ∙ c.if-relates.true)

pub put_entry-requires : goal.put_entry-requires
put_entry-requires c = let t = c.args.step.now.table.now in
    let one = cell-next (table_lts t) c.args.step.now.initial (pairs_of t c.args.step.now.before.now) (pairs_of t c.args.step.now.after.now) c.args.p c.args.q c.args.at (test (goal.at.put_entry-requires c).After-relates-2 ∙ c.if-relates.true) in
    omega (arith, one, c.requires.es_in_bounds)

pub returns-then-relates : goal.returns-then-relates
returns-then-relates c =
    let leaves = test (goal.at.returns-then-relates c).After-relates-2 ∙ c.if-relates.true in
    let write : List Entry → List _ = λ l. sets c.args.numbers.now (4 * c.args.at) (entry_numbers l) in
    record {
      result_value = cell-next _ _ _ _ _ _ c.args.at leaves;
      numbers_after = c.put_entry.ensures ∙ ap (λ (e : Entry). write (e ∷ [])) c.entry_from.ensures ∙ ap write (sym (cell-leaves _ _ _ _ _ _ leaves));
    }

pub returns : goal.returns
returns c =
    let stays = test (goal.at.returns c).After-relates-2 ∙ c.if-relates.false in
    record { result_value = cell-none _ _ _ _ _ _ c.args.at stays; numbers_after = cell-empty _ _ _ _ _ _ c.args.numbers.now (4 * c.args.at) stays }
