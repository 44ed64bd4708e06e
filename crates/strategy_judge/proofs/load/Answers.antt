-- `strategy_judge::load` meets its contract: by the reading.
use Rattle.strategy_judge.proofs.Answers.{loads-full, loads-empty}
use Rattle.strategy_judge.proofs.load.Goals as goal

pub load-requires : goal.load-requires
load-requires c = c.requires _ c.in-Ok.is

pub returns-in-Err : goal.returns-in-Err
returns-in-Err c = loads-empty _ c.in-Err.is

pub returns-in-Ok : goal.returns-in-Ok
returns-in-Ok c = loads-full _ c.in-Ok.is c.load.ensures
