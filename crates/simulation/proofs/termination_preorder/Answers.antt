-- `simulation::termination_preorder` meets its contract: the promise follows from the equation.
use Rattle.starts.specs.Start.{written_start}
use Rattle.simulation.proofs.Starts.{end-start}
use Rattle.simulation.proofs.Promise.{start-promised}
use Rattle.simulation.proofs.termination_preorder.Goals as goal

pub returns : goal.returns
unfolding written_start
returns c = let e = c.write_start.ensures in record { grid_value = e; write_start_promise = start-promised end-start _ _ _ _ e }
