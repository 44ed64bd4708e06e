-- `encoding::follows` meets its contract.
use Rattle.encoding.specs.Labels.{follows}
use Rattle.encoding.proofs.follows.Goals as goal

pub returns : goal.returns
unfolding follows
returns c = cc
