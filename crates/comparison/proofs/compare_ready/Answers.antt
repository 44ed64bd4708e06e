-- `comparison::compare_ready` meets its contract: the promise follows from the equation.
use Rattle.starts.specs.Start.{written_start}
use Rattle.comparison.proofs.Promise.{ready-promised}
use Rattle.comparison.proofs.compare_ready.Goals as goal

pub returns : goal.returns
unfolding written_start
returns c = let e = c.compare_by.ensures in record { second_value = e; compare_ready_promise = ready-promised _ _ e }
