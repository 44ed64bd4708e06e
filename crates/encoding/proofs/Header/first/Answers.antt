-- `encoding::Header::first` meets its contract.
use native.Mathlib.Omega.{arith}
use Rattle.encoding.proofs.Header.first.Goals as goal

pub returns-then-self : goal.returns-then-self
returns-then-self c = rw c.if-self.true

pub returns : goal.returns
returns c = rw c.if-self.false (omega arith)
