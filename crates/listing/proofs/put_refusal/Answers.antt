-- `put_refusal`: a refusal has a small number.
use native.Mathlib.Omega.{arith}
use Rattle.lts.proofs.Rule.{number-some}
use borrow.Author.Rules.{rules}
use Rattle.listing.proofs.put_refusal.Goals as goal

pub put_refused-requires : goal.put_refused-requires
put_refused-requires c = (omega (arith, c.number.ensures, (number-some c.args.r).1), search rules)

pub returns : goal.returns
returns c = let n = c.number.ensures in
    record { value = rw n at c.put_refused.ensures.value; out_after = rw n at c.put_refused.ensures.out_after }
