-- `release::flow_coarsest` meets its contract.
use mathlib.Core.Path.{◌∙◌}
use Rattle.coarsest.specs.Call.{coarsest_reply}
use Rattle.coarsest_bytes.proofs.Laws.{small}
use Rattle.release.specs.Packed.{coarsest_places}
use Rattle.release.proofs.Packing.{unpack-refused}
use Rattle.release.proofs.Replies.{packs-same, kept_same, refused-packed, counts-kept}
use Rattle.release.proofs.Exports.{coarsest-exported}
use Rattle.release.proofs.flow_coarsest.Goals as goal

pub pack_counts-requires : goal.pack_counts-requires
pack_counts-requires c = small c.coarsest_on_bytes-answer.ensures.coarsest_bytes_promise.carried c.in-Ok.is

pub returns-in-Err : goal.returns-in-Err
unfolding coarsest_reply
returns-in-Err c = let whole = coarsest-exported c.coarsest_on_bytes-answer.ensures.representatives_value c.coarsest_on_bytes-answer.ensures.coarsest_bytes_promise
    (packs-same coarsest_places coarsest_reply c.in-Err.is (c.pack_refused.ensures ∙ refused-packed coarsest_places c.in-Err.r))
    (kept_same coarsest_places coarsest_reply c.in-Err.is (unpack-refused coarsest_places c.in-Err.r)) in record { representatives_value = whole.0; value = whole.1.0; coarsest_bytes_promise = whole.1.1 }

pub returns-in-Ok : goal.returns-in-Ok
returns-in-Ok c = let whole = coarsest-exported c.coarsest_on_bytes-answer.ensures.representatives_value c.coarsest_on_bytes-answer.ensures.coarsest_bytes_promise (packs-same coarsest_places coarsest_reply c.in-Ok.is c.pack_counts.ensures)
    (kept_same coarsest_places coarsest_reply c.in-Ok.is (counts-kept c.in-Ok.counts (small c.coarsest_on_bytes-answer.ensures.coarsest_bytes_promise.carried c.in-Ok.is))) in record { representatives_value = whole.0; value = whole.1.0; coarsest_bytes_promise = whole.1.1 }
