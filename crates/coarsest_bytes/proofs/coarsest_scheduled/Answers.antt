-- `coarsest_scheduled` meets its contract: all of the schedule is read.
use Rattle.carry.proofs.Fronts.{schedule-all}
use Rattle.coarsest_bytes.proofs.coarsest_scheduled.Goals as goal

pub returns : goal.returns
returns g c = rw (← schedule-all _ _ _ c.load.ensures) c.coarsest_carried.ensures
