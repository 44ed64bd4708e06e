-- `encoding::Header::read` meets its contract.
use Rattle.encoding.specs.Records.{header_of}
use Rattle.encoding.proofs.Header.read.Goals as goal

pub returns : goal.returns
unfolding header_of
returns c = cc
