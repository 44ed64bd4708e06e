-- `strategy_rounds::same_rows` meets its contract: what is picked state by state. Assumes nothing.
use mathlib.Core.Path.{◌≡◌, sym, ap, ◌∙◌, subst⁻¹}
use mathlib.Core.List.{List}
use mathlib.Core.Bool.{not}
use Prim.Native.Nat.{ℕ, ◌≤◌}
use native.Mathlib.Omega.{arith}
use lib.ListN.{length}
use Rattle.rows.specs.Rows.{row_words}
use Rattle.relation.specs.Matrix.{relation_of}
use Rattle.lts.proofs.Below.{length-list_below}
use Rattle.rows.proofs.Rows.{picked, picked_none, picked-in, picked-out, picked_all}
use Rattle.relation.proofs.Matrices.{row-long}
use Rattle.strategy_rounds.specs.Rounds.{same_rows}
use Rattle.strategy_rounds.proofs.Settling.{row-test}
use Rattle.strategy_rounds.proofs.same_rows.Goals.{At-loop-p}
use Rattle.strategy_rounds.proofs.same_rows.Goals.{then-not-row_differs, else-not-row_differs}
use Rattle.strategy_rounds.proofs.same_rows.Goals as goal

pub loop-p-init : goal.loop-p-init
loop-p-init c = picked_none _

pub row_at-requires : goal.row_at-requires
row_at-requires c = (c.requires.0.long, c.requires.2, c.loop-p-test.true)

pub row_at-requires-in-loop-p : goal.row_at-requires-in-loop-p
row_at-requires-in-loop-p c = (c.requires.1.long, c.requires.2, c.loop-p-test.true)

pub row_differs-requires : goal.row_differs-requires
row_differs-requires c = rw c.row_words-w.ensures (
  subst⁻¹ (λ (l : List ℕ). row_words c.args.n ≤ length l) c.row_at.ensures (row-long c.args.n c.args.before.now c.loop-p-test.true c.requires.0.long),
  subst⁻¹ (λ (l : List ℕ). row_words c.args.n ≤ length l) c.row_at-in-loop-p.ensures (row-long c.args.n c.args.after.now c.loop-p-test.true c.requires.1.long),
)

long : (c : At-loop-p) → length c.loop-p.out ≡ 4
long c = ap length c.loop-p.invariant ∙ length-list_below 4 _

pub slice_bounds-insert-end : goal.slice_bounds-insert-end
slice_bounds-insert-end c = sym (long (goal.at.slice_bounds-insert-end c).At-loop-p)

pub insert-requires : goal.insert-requires
insert-requires c = omega (arith, long (goal.at.insert-requires c).At-loop-p, c.loop-p-test.true, c.requires.2)

pub loop-p-preserved : goal.loop-p-preserved
loop-p-preserved c = let p = c.loop-p.p in
    let S = same_rows c.args.n (relation_of c.args.n c.args.before.now) (relation_of c.args.n c.args.after.now) in
    let test = row-test c.args.n p c.args.before.now c.args.after.now c.requires.0 c.requires.1 c.loop-p-test.true c.row_words-w.ensures c.row_at.ensures c.row_at-in-loop-p.ensures c.row_differs.ensures in
    elim c.if-not-row_differs.branch [
      | then-not-row_differs w ↦ w.out-is ∙ w.insert.ensures ∙ picked-in S p c.loop-p.invariant (test ∙ ap not w.if-not-row_differs.true)
      | else-not-row_differs w ↦ w.out-is ∙ picked-out S p c.loop-p.invariant (test ∙ ap not w.if-not-row_differs.false)
    ]

pub returns : goal.returns
returns c = let end : c.loop-p.p ≡ c.args.n = omega (arith, c.loop-p-test.false) in
    let S = same_rows c.args.n (relation_of c.args.n c.args.before.now) (relation_of c.args.n c.args.after.now) in
    c.loop-p.invariant ∙ ap (picked S) end ∙ picked_all S c.args.n
