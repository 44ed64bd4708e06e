-- `release::flow_compare_ready` meets its contract.
use Rattle.comparison.specs.Call.{CompareReadyPromise}
use Rattle.release.specs.Packed.{compare_places}
use Rattle.release.proofs.Replies.{exported, compared-kept}
use Rattle.release.proofs.Compared.{turns-few}
use Rattle.release.proofs.flow_compare_ready.Goals as goal

pub pack_compared-requires : goal.pack_compared-requires
pack_compared-requires c = turns-few c.compare_ready.ensures.compare_ready_promise.compared

pub returns : goal.returns
returns c = let whole = exported compare_places (CompareReadyPromise _ _) c.compare_ready.ensures.second_value c.compare_ready.ensures.compare_ready_promise c.pack_compared.ensures (compared-kept _) in record { second_value = whole.0; value = whole.1.0; compare_ready_promise = whole.1.1 }
