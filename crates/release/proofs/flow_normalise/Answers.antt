-- `release::flow_normalise` meets its contract.
use Rattle.release.proofs.Replies.{checked-kept}
use Rattle.release.proofs.Exports.{normalise-exported}
use Rattle.release.proofs.flow_normalise.Goals as goal

pub returns : goal.returns
returns c = let whole = normalise-exported c.normalise.ensures.out_value c.normalise.ensures.normalise_promise c.pack_checked.ensures (checked-kept _) in record { out_value = whole.0; value = whole.1.0; normalise_promise = whole.1.1 }
