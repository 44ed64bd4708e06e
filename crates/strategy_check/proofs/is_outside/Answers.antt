-- `strategy_check::is_outside` meets its contract: by the tests that it makes. Assumes nothing.
use mathlib.Core.Path.{ap}
use mathlib.Core.Bool.{Bool, not, ◌&&◌}
use lib.Dec.{eqb}
use Rattle.strategy_check.specs.Entries.{outside}
use Rattle.strategy_check.proofs.is_outside.Goals as goal

pub relates-requires : goal.relates-requires
relates-requires c = (c.requires.0.long, c.requires.1, c.requires.2, c.requires.3)

pub returns : goal.returns
unfolding outside
returns c = ap (λ (b : Bool). eqb c.args.a 0 && eqb c.args.t 0 && not b) c.relates.ensures
