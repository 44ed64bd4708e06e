-- `encoding::TransitionRecord::fits` meets its contract.
use mathlib.Core.Path.{refl}
use Rattle.encoding.specs.Encoding.{transition_fits}
use Rattle.encoding.proofs.TransitionRecord.fits.Goals as goal

pub returns : goal.returns
unfolding transition_fits
returns c = refl
