-- `strategy_check::holds_pair` meets its contract: the two numbers that it reads are the pair's. Assumes nothing.
use Rattle.strategy_check.specs.Entries.{holds_pair}
use Rattle.strategy_check.proofs.holds_pair.Goals as goal

pub returns : goal.returns
unfolding holds_pair
returns c = rw (c.from.ensures, c.from-2.ensures)
