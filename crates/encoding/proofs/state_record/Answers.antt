-- `encoding::state_record` meets its contract.
use Rattle.encoding.specs.Records.{state_record}
use Rattle.encoding.proofs.state_record.Goals as goal

pub returns : goal.returns
unfolding state_record
returns c = cc
