-- `reader::fits_anew` meets its contract.
use mathlib.Core.Path.{ap₂}
use mathlib.Core.Bool.{◌&&◌}
use Rattle.reader.proofs.Labels.{found-new}
use Rattle.reader.proofs.fits_anew.Goals as goal

pub returns : goal.returns
returns c = λ J has. ap₂ ◌&&◌ c.fits.ensures (found-new has _ (c.find_label.ensures J has))
