-- `encoding::number_at` meets its contract: the number of two bytes, low byte first.
use Rattle.std.proofs.Common.{rules}
use Rattle.encoding.specs.Records.{number_at}
use Rattle.encoding.proofs.number_at.Goals as goal

pub returns : goal.returns
unfolding number_at
returns c = search rules
