-- `transitions::terminating` meets its contract: what is gathered state by state. Assumes nothing.
use mathlib.Core.Path.{◌≡◌, sym, ap, ◌∙◌}
use native.Mathlib.Omega.{arith}
use borrow.Author.Tests.{eq-eqb, ne_eqb}
use lib.Dec.{eqb}
use Rattle.lts.specs.System.{Set}
use Rattle.rows.proofs.Rows.{picked, picked_none, picked-in, picked-out}
use Rattle.transitions.specs.Table.{states_of, mark_at}
use Rattle.transitions.proofs.Lookups.{terminating-picked}
use Rattle.transitions.proofs.terminating.Goals as goal
use Rattle.transitions.proofs.terminating.Goals.{then-mark-eq1, else-mark-eq1}

pub loop-p-init : goal.loop-p-init
loop-p-init c = picked_none _

pub returns : goal.returns
returns c =
    let t = c.args.table.now in
    let end : c.loop-p.p ≡ states_of t = omega (arith, c.states-p-end.ensures.0) in
    c.loop-p.invariant ∙ ap (picked _) end ∙ terminating-picked t

pub loop-p-preserved : goal.loop-p-preserved
loop-p-preserved c =
    let t = c.args.table.now in
    let S : Set = λ p. eqb (mark_at t p) 1 in
    let mark = c.mark.ensures.0 in
    elim c.if-mark-eq1.branch [
      | then-mark-eq1 w ↦ w.set-is ∙ w.insert.ensures ∙ picked-in S c.loop-p.p c.loop-p.invariant (eq-eqb _ 1 (sym mark ∙ w.if-mark-eq1.true))
      | else-mark-eq1 w ↦ w.set-is ∙ picked-out S c.loop-p.p c.loop-p.invariant (ne_eqb _ 1 (λ e. w.if-mark-eq1.false (mark ∙ e)))
    ]
