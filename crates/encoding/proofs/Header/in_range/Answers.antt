-- `encoding::Header::in_range` meets its contract.
use mathlib.Core.Path.{refl}
use Rattle.encoding.specs.Encoding.{in_range}
use Rattle.encoding.proofs.Header.in_range.Goals as goal

pub returns : goal.returns
unfolding in_range
returns c = refl
