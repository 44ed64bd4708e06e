-- `rows::WordOnes::next` meets its contract, by `ones-first`. Assumes nothing.
use mathlib.Core.Path.{refl, ap}
use native.Mathlib.Omega.{arith}
use borrow.Author.Rules.{rules}
use lib.ListN.{length}
use Rattle.rows.proofs.Lowest.{ones_none, ones-first}
use Rattle.rows.proofs.WordOnesIterator.next.Goals as goal

pub returns-then-self-eq0-clause-steps : goal.returns-then-self-eq0-clause-steps
returns-then-self-eq0-clause-steps c =
    let zero = c.if-self-eq0.true in
    let none = ones_none c.args.self.now.left zero in ((none, none), (zero, zero))

pub returns-clause-steps : goal.returns-clause-steps
returns-clause-steps c =
    let some = c.if-self-eq0.false in (ones-first c.args.self.now.left (search rules) some, (some, refl, refl))

pub returns-clause-goes : goal.returns-clause-goes
returns-clause-goes c =
    let first = ones-first c.args.self.now.left (search rules) c.if-self-eq0.false in
    record { on = λ _. (tt, tt, omega (arith, ap length first)); keeps = tt; rests = λ _. tt }
