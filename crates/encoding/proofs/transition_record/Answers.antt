-- `encoding::transition_record` meets its contract.
use Rattle.encoding.specs.Records.{transition_record}
use Rattle.encoding.proofs.transition_record.Goals as goal

pub returns : goal.returns
unfolding transition_record
returns c = cc
