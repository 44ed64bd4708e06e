-- `encoding::label_record` meets its contract.
use Rattle.encoding.specs.Records.{label_record}
use Rattle.encoding.proofs.Labels.{label_inside}
use Rattle.encoding.proofs.label_record.Goals as goal

pub read-requires : goal.read-requires
read-requires c =
    rw c.label_at.ensures (label_inside _ _ _ c.requires.0 c.requires.1 c.requires.2 c.requires.3)

pub returns : goal.returns
unfolding label_record
returns c = cc
