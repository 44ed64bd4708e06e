-- `encoding::StateRecord::read` meets its contract.
use Rattle.encoding.specs.Records.{state_record_at}
use Rattle.encoding.proofs.StateRecord.read.Goals as goal

pub returns : goal.returns
unfolding state_record_at
returns c = cc
