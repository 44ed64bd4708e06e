-- `strategy_rounds::next_round` meets its contract: row by row, what is kept is what has an answer. Assumes nothing.
use mathlib.Core.Path.{◌≡◌, sym, ap, ◌∙◌}
use Prim.Native.Nat.{ℕ, ◌<◌}
use native.Mathlib.Omega.{arith}
use lib.ListN.{length}
use Rattle.rows.specs.Rows.{in_row}
use Rattle.transitions.specs.Table.{states_of, count_of, target_at}
use Rattle.relation.specs.Matrix.{relation_of, matrix_of}
use Rattle.relation.proofs.Matrices.{matrix-relation, formed-of, length-matrix_of}
use Rattle.strategy_rounds.proofs.Steps.{kept, kept-none, kept_more, kept-settled, kept-all}
use borrow.Author.Rules.{rules}
use Rattle.strategy_rounds.proofs.next_round.Goals.{In-loop-i}
use Rattle.strategy_rounds.proofs.next_round.Goals.{then-not-contains, else-not-contains}
use Rattle.strategy_rounds.proofs.next_round.Goals as goal

pub loop-i-init : goal.loop-i-init
loop-i-init c = c.copy_matrix.ensures ∙ matrix-relation _ _ c.requires.formed.1 (λ j. (c.type_inv.current j).fits) ∙ kept-none _ c.requires.formed.0 _

-- the target of transition i is a state
target : (c : In-loop-i) → let t = c.args.table.now in
    target_at t c.loop-i.i < states_of t
target c =
    c.requires.formed.0.target c.loop-i.i (omega (arith, c.loop-i-test.true, c.count-k.ensures.0))

pub contains-requires : goal.contains-requires
contains-requires c = omega (arith, c.target.ensures.0, c.requires.formed.0.states, target (goal.at.contains-requires c).In-loop-i)

pub keep_answering-requires : goal.keep_answering-requires
keep_answering-requires c = (c.requires.formed.0, c.requires.formed.1, formed-of _ _ c.loop-i.invariant, search rules)

pub shape_of-next : goal.shape_of-next
shape_of-next c = ap length c.loop-i.invariant ∙ length-matrix_of _ _ ∙ sym c.requires.formed.1.long ∙ c.requires.formed.2

pub loop-i-preserved : goal.loop-i-preserved
loop-i-preserved c = let t = c.args.table.now in
    let below : c.loop-i.i < count_of t = omega (arith, c.loop-i-test.true, c.count-k.ensures.0) in
    let R = relation_of (states_of t) c.args.current.now in
    let X = in_row c.args.settled.now in
    elim c.if-not-contains.branch [
      | then-not-contains w ↦ w.next-is ∙ w.keep_answering.ensures ∙ kept_more t c.requires.formed.0 R c.loop-i.i below c.loop-i.invariant
      | else-not-contains w ↦ w.next-is ∙ c.loop-i.invariant ∙ kept-settled t c.requires.formed.0 R X c.loop-i.i c.requires.settled below (sym (ap (in_row c.args.settled.now) c.target.ensures.0) ∙ sym c.contains.ensures ∙ w.if-not-contains.false)
    ]

pub returns : goal.returns
returns c = let t = c.args.table.now in
    let end : c.loop-i.i ≡ count_of t = omega (arith, c.loop-i-test.false, c.count-k.ensures.0) in
    c.loop-i.invariant ∙ ap (λ (i : ℕ). matrix_of (states_of t) (kept t (relation_of (states_of t) c.args.current.now) i)) end
    ∙ kept-all t c.requires.formed.0 _
