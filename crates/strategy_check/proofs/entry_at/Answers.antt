-- `strategy_check::entry_at` meets its contract: by the four numbers that it reads.
use mathlib.Core.Path.{refl}
use Rattle.strategy_check.specs.Entries.{entry_of}
use Rattle.strategy_check.proofs.entry_at.Goals as goal

pub returns : goal.returns
unfolding entry_of
returns c = refl
