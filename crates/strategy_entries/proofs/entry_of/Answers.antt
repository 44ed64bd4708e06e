-- `strategy_entries::entry_of` meets its contract. Assumes nothing.
use Rattle.strategy.proofs.Entries.{entry_read}
use Rattle.strategy_entries.proofs.entry_of.Goals as goal

pub returns : goal.returns
returns c = entry_read c.args.numbers.now c.args.i c.requires
