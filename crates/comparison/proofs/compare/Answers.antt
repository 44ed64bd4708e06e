-- `comparison::compare` meets its contract: the promise follows from the equation.
use Rattle.starts.specs.Start.{written_start}
use Rattle.comparison.proofs.Promise.{promised, end-compares}
use Rattle.comparison.proofs.compare.Goals as goal

pub returns : goal.returns
unfolding written_start
returns c = let e = c.compare_by.ensures in record { second_value = e; compare_promise = promised end-compares _ _ e }
