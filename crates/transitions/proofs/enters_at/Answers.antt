-- `transitions::enters_at` meets its contract: the code is the definition. Assumes nothing.
use native.Mathlib.Omega.{arith}
use Rattle.transitions.specs.Table.{enters}
use Rattle.transitions.proofs.enters_at.Goals as goal

pub contains-requires : goal.contains-requires
contains-requires c = omega (arith, c.target.ensures.0, c.requires.0.target c.args.i c.requires.2, c.requires.1)

pub returns : goal.returns
unfolding enters
returns c = rw (c.action.ensures.0, c.contains.ensures, c.target.ensures.0)
