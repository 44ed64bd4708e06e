-- `put_decimal`: a call of itself writes the digits of x / 10, and one digit more is written after them. The measure is x.
use Prim.Native.Nat.{ℕ, ◌/◌, ◌<◌, ◌≤◌}
use native.Mathlib.Omega.{arith}
use lib.ListN.{length, length-append}
use Rattle.report.specs.Decimal.{decimal}
use Rattle.report.proofs.Laws.{decimal-one, decimal-more, decimal-length, digit-one, digit-more}
use Rattle.report.proofs.+put_decimal.Goals as goal

-- the digits before the last are at most four
short : (x : ℕ) → x < 100000 → length (decimal (x / 10)) ≤ 4
short x h = decimal-length 3 (x / 10) (omega arith)

pub returns-then-x-lt10-clause-value : goal.returns-then-x-lt10-clause-value
returns-then-x-lt10-clause-value t c = rw (decimal-one c.args.x c.if-x-lt10.true)

pub returns-then-x-lt10-clause-out_after : goal.returns-then-x-lt10-clause-out_after
returns-then-x-lt10-clause-out_after t c = digit-one c.args.at c.args.x c.args.out.now c.if-x-lt10.true (omega arith)

pub bounds-out-next : goal.bounds-out-next
bounds-out-next t c = omega (arith, short c.args.x (omega arith))

pub overflow_add-result-2 : goal.overflow_add-result-2
overflow_add-result-2 t c = omega (arith, short c.args.x (omega arith))

pub returns-clause-value : goal.returns-clause-value
returns-clause-value t c = rw (decimal-more c.args.x c.if-x-lt10.false, length-append) (omega arith)

pub returns-clause-out_after : goal.returns-clause-out_after
returns-clause-out_after t c =
    let w = c.put_decimal-next in
    let l = short c.args.x (omega arith) in
    digit-more c.args.at c.args.x w.result c.args.out.now w.new.out c.if-x-lt10.false (omega arith) w.ensures.value w.ensures.out_after
