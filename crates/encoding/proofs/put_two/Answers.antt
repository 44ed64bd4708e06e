-- `encoding::put_two` meets its contract.
use native.Mathlib.Numerals.{add-one}
use Rattle.encoding.specs.Records.{two}
use Rattle.encoding.proofs.put_two.Goals as goal

pub returns : goal.returns
unfolding two
returns c = rw add-one
