-- `partition::count_blocks` meets its contract. Assumes nothing.
use mathlib.Core.Path.{◌≡◌, sym, ap, ◌∙◌}
use mathlib.Core.Bool.{Bool, true, false, cond}
use Prim.Native.Nat.{ℕ}
use native.Mathlib.Nat.{add-zero}
use native.Mathlib.Omega.{arith}
use lib.Dec.{eqb}
use borrow.Author.Tests.{eq-eqb, ne_eqb}
use Rattle.lts.specs.Bounded.{count_below}
use Rattle.lts.proofs.Below.{sum-none, sum_more, sum_done}
use Rattle.partition.proofs.Laws.{row-lowest-test}
use borrow.Author.Rules.{rules}
use Rattle.partition.proofs.count_blocks.Goals.{After-lowest_state, then-lowest_state-p, else-lowest_state-p}
use Rattle.partition.proofs.count_blocks.Invariants.{representing}
use Rattle.partition.proofs.count_blocks.Goals as goal

pub loop-p-init : goal.loop-p-init
loop-p-init c = (search rules, sum-none _)

-- the test at p
test : (c : After-lowest_state)
    → eqb c.lowest_state.result c.loop-p.p ≡ representing c.args.n c.args.blocks.now c.loop-p.p
test c =
    let p = c.loop-p.p in
    ap (λ (x : ℕ). eqb x p) c.lowest_state.ensures ∙ row-lowest-test c.args.n c.args.blocks.now p c.row_words-w.ensures c.row_at.ensures c.loop-p-test.true

pub loop-p-preserved : goal.loop-p-preserved
loop-p-preserved c =
    let same = test (goal.at.loop-p-preserved c).After-lowest_state in
    let more = λ (b : Bool) (e : eqb c.lowest_state.result c.loop-p.p ≡ b). sum_more _ c.loop-p.p c.loop-p.invariant.1 (ap (λ (b : Bool). cond b 1 0) (sym e ∙ same)) in
    elim c.if-lowest_state-p.branch [
      | then-lowest_state-p w ↦ (search rules, w.total-is ∙ more true (eq-eqb _ _ w.if-lowest_state-p.true))
      | else-lowest_state-p w ↦ (search rules, w.total-is ∙ sym (add-zero c.loop-p.total) ∙ more false (ne_eqb _ _ w.if-lowest_state-p.false))
    ]

pub returns : goal.returns
unfolding count_below
returns c = sum_done _ _ _ c.loop-p.invariant.1 (omega arith)
