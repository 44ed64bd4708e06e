-- `encoding::TransitionRecord::read` meets its contract.
use Rattle.encoding.specs.Records.{transition_record_at}
use Rattle.encoding.proofs.TransitionRecord.read.Goals as goal

pub returns : goal.returns
unfolding transition_record_at
returns c = cc
