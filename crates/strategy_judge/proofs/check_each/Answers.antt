-- `strategy_judge::check_each` meets its contract: the entries are judged one by one, and it ends at the first unsound one.
use Prim.Native.Nat.{ℕ, ◌+◌, ◌<◌}
use mathlib.Core.Path.{◌≡◌, refl}
use native.Mathlib.Omega.{arith}
use lib.ListN.{length, length-replicate}
use Rattle.lts.proofs.Rule.{passed_on}
use Rattle.transitions.specs.Table.{states_of, table_lts}
use Rattle.relation.specs.Matrix.{relation_of}
use Rattle.strategy_judge.proofs.Answers.{read_by, judged-none, judged-all, each-next, each-judgeable, each-unsound, each-answered, each-refused}
use Rattle.strategy_judge.proofs.check_each.Goals as goal

pub load-table-requires : goal.load-table-requires
load-table-requires g c = read_by _ _ c.in_ok-h.ensures _ refl

pub loop-i-init : goal.loop-i-init
loop-i-init g c = (λ es n gives. judged-none _ _ 65540, length-replicate {A = ℕ} 65540 0)

pub judge-requires : goal.judge-requires
judge-requires g c = (each-judgeable _ _ c.in_ok-h.ensures c.load-table.ensures, c.loop-i.invariant.1)

pub returns-then-judged-eq1 : goal.returns-then-judged-eq1
returns-then-judged-eq1 g c = λ es n gives.
    let L = table_lts c.load-table.result in
    let R = relation_of (states_of c.load-table.result) c.args.start.now in
    let less : c.loop-i.i < length es = omega (arith, n, c.loop-i-test.true) in
    each-unsound _ _ c.in_ok-h.ensures c.load-table.ensures es (c.loop-i.i + 1)
    (each-next L R es _ (c.loop-i.invariant.0 es n gives) (gives _ _ less c.entry.ensures) less c.judge.ensures.1) c.if-judged-eq1.true

pub loop-i-preserved : goal.loop-i-preserved
loop-i-preserved g c = (
  λ es n gives.
      let L = table_lts c.load-table.result in
      let R = relation_of (states_of c.load-table.result) c.args.start.now in
      let less : c.loop-i.i < length es = omega (arith, n, c.loop-i-test.true) in
      each-next L R es _ (c.loop-i.invariant.0 es n gives) (gives _ _ less c.entry.ensures) less c.judge.ensures.1,
  c.judge.ensures.0,
)

pub returns-in_err-h : goal.returns-in_err-h
returns-in_err-h g c = λ es n gives. rw (passed_on _ c.from_residual.ensures.1) (each-refused _ _ es c.in_err-h.ensures)

pub answer-requires : goal.answer-requires
answer-requires g c = c.loop-i.invariant.1

pub returns : goal.returns
returns g c = λ es n gives.
    let L = table_lts c.load-table.result in
    let R = relation_of (states_of c.load-table.result) c.args.start.now in
    let end : c.loop-i.i ≡ length es = omega (arith, n, c.loop-i-test.false, c.loop-i.auto.i-end) in
    each-answered _ _ c.in_ok-h.ensures c.load-table.ensures es n (judged-all L R es _ (c.loop-i.invariant.0 es n gives) end) c.answer.ensures
