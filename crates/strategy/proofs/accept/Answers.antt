-- `strategy::accept` meets its contract: the numbers of the last entry.
use Rattle.strategy.proofs.Checks.{last-read}
use Rattle.strategy.proofs.accept.Goals as goal

pub returns : goal.returns
returns c = rw (c.from.ensures, c.from-2.ensures) (last-read _ _ c.requires)
