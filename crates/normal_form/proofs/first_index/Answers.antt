-- `encoding::first_index` meets its contract.
use borrow.Author.Tests.{eq-eqb, ne_eqb}
use Rattle.normal_form.specs.Normal.{first_index}
use Rattle.normal_form.proofs.first_index.Goals as goal

pub returns-then-i-j : goal.returns-then-i-j
unfolding first_index
returns-then-i-j c = rw (eq-eqb _ _ c.if-i-j.true)

pub returns : goal.returns
unfolding first_index
returns c = rw (ne_eqb _ _ c.if-i-j.false)
