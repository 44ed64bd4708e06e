-- `reader::state_fits` meets its contract.
use Rattle.reader.proofs.state_fits.Goals as goal

pub returns : goal.returns
returns c = cc
