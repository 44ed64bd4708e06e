-- `release::flow_join` meets its contract.
use mathlib.Core.Path.{ap}
use native.Mathlib.Omega.{arith}
use Rattle.disjoint_union.specs.Join.{join_reply}
use Rattle.release.proofs.Replies.{joined-kept}
use Rattle.release.proofs.Joined.{length-few}
use Rattle.release.proofs.Exports.{join-exported}
use Rattle.release.proofs.flow_join.Goals as goal

pub pack_count-requires : goal.pack_count-requires
unfolding join_reply
pack_count-requires c = λ count e. omega (arith, length-few c.join.ensures.join_promise (ap join_reply e))

pub returns : goal.returns
returns c =
    let whole = join-exported c.join.ensures.out_value c.join.ensures.join_promise c.pack_count.ensures.joined (joined-kept _) in
    record { out_value = whole.0; value = whole.1.0; join_promise = whole.1.1 }
