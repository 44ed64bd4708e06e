-- `release::flow_compare` meets its contract.
use Rattle.lts.specs.System.{termination_preorder}
use Rattle.comparison.specs.Call.{Relates, ComparePromise}
use Rattle.release.specs.Packed.{compare_places}
use Rattle.release.proofs.Replies.{exported, compared-kept}
use Rattle.release.proofs.Compared.{turns-few}
use Rattle.release.proofs.flow_compare.Goals as goal

pub pack_compared-requires : goal.pack_compared-requires
pack_compared-requires c = turns-few c.compare.ensures.compare_promise

pub returns : goal.returns
returns c = let whole = exported compare_places (ComparePromise termination_preorder Relates _ _) c.compare.ensures.second_value c.compare.ensures.compare_promise c.pack_compared.ensures (compared-kept _) in record { second_value = whole.0; value = whole.1.0; compare_promise = whole.1.1 }
