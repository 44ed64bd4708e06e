-- `read_number`: x is the number of the bytes from j to the end, and fits as many bytes.
use Prim.Native.Nat.{◌+◌, ◌-◌, ◌<◌, ◌≤◌}
use mathlib.Core.Path.{◌≡◌}
use native.Mathlib.Omega.{arith}
use borrow.Author.Rules.{rules}
use lib.Dec.{lit<}
use Rattle.carry.proofs.Laws.{number-start, number-down, number-done, number_fits, bound-start, bound-down}
use Rattle.carry.proofs.read_number.Goals as goal

pub loop-j-init : goal.loop-j-init
loop-j-init c = (search rules, number-start (c.args.at + c.args.k) c.args.bytes.now, bound-start (c.args.at + c.args.k))

pub overflow_mul-x : goal.overflow_mul-x
overflow_mul-x c =
    omega (arith, number_fits (c.args.at + c.args.k - c.loop-j.j) c.loop-j.x 0 (omega arith) c.loop-j.invariant.2 (lit< tt))

pub overflow_add-x : goal.overflow_add-x
overflow_add-x c =
    record { fits = number_fits (c.args.at + c.args.k - c.loop-j.j) c.loop-j.x _ (omega arith) c.loop-j.invariant.2 (omega (arith, c.from.ensures, c.type_inv.bytes (c.loop-j.j - 1))) }

pub loop-j-preserved : goal.loop-j-preserved
loop-j-preserved c =
    let h : 0 < c.loop-j.j = omega arith in
    let l : c.loop-j.j ≤ c.args.at + c.args.k = omega arith in
    let t = c.args.at + c.args.k in (
      search rules,
      rw c.from.ensures (number-down c.loop-j.j t c.loop-j.x c.args.bytes.now h l (omega arith) c.loop-j.invariant.1),
      bound-down c.loop-j.j t c.loop-j.x _ h l c.loop-j.invariant.2 (omega (arith, c.from.ensures, c.type_inv.bytes (c.loop-j.j - 1))),
    )

pub returns-clause-value : goal.returns-clause-value
returns-clause-value c =
    let e : c.loop-j.j ≡ c.args.at = omega arith in
    number-done c.args.at c.args.k c.loop-j.x c.args.bytes.now (omega arith) (rw e at c.loop-j.invariant.1)

pub returns-clause-upper_bound : goal.returns-clause-upper_bound
returns-clause-upper_bound c =
    let e : c.loop-j.j ≡ c.args.at = omega arith in
    let w : c.args.at + c.args.k - c.args.at ≡ c.args.k = omega arith in
    rw (e, w) at c.loop-j.invariant.2
