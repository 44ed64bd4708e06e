-- `rows::contains` meets its contract: the code is the definition. Assumes nothing.
use mathlib.Core.Path.{refl}
use Rattle.rows.specs.Rows.{bit, in_row}
use Rattle.rows.proofs.contains.Goals as goal

pub returns : goal.returns
unfolding in_row bit
returns c = refl
