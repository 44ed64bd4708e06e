-- `encoding::StateRecord::fits` meets its contract.
use mathlib.Core.Path.{refl}
use Rattle.encoding.specs.Encoding.{state_fits}
use Rattle.encoding.proofs.StateRecord.fits.Goals as goal

pub returns : goal.returns
unfolding state_fits
returns c = refl
