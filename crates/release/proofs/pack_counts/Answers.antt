-- `release::pack_counts` meets its contract.
use Rattle.release.proofs.Replies.{counts-packed}
use Rattle.release.proofs.pack_counts.Goals as goal

pub returns : goal.returns
returns c = counts-packed _
