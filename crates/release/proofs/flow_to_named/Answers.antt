-- `release::flow_to_named` meets its contract.
use Rattle.release.proofs.Replies.{checked-kept}
use Rattle.release.proofs.Exports.{to-named-exported}
use Rattle.release.proofs.flow_to_named.Goals as goal

pub returns : goal.returns
returns c = let whole = to-named-exported c.to_named.ensures.out_value c.to_named.ensures.to_named_promise c.pack_checked.ensures (checked-kept _) in record { out_value = whole.0; value = whole.1.0; to_named_promise = whole.1.1 }
