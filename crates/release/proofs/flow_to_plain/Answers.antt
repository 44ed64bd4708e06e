-- `release::flow_to_plain` meets its contract.
use Rattle.release.proofs.Replies.{checked-kept}
use Rattle.release.proofs.Exports.{to-plain-exported}
use Rattle.release.proofs.flow_to_plain.Goals as goal

pub returns : goal.returns
returns c = let whole = to-plain-exported c.to_plain.ensures.out_value c.to_plain.ensures.to_plain_promise c.pack_checked.ensures (checked-kept _) in record { out_value = whole.0; value = whole.1.0; to_plain_promise = whole.1.1 }
