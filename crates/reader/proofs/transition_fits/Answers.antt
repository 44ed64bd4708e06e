-- `reader::transition_fits` meets its contract.
use Rattle.reader.proofs.transition_fits.Goals as goal

pub returns : goal.returns
returns c = cc
