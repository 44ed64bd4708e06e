-- `release::flow_write_plan` meets its contract.
use native.Mathlib.Omega.{arith}
use mathlib.Core.Path.{sym, ap}
use lib.Seq.{length-take-le}
use Rattle.strategy.specs.Write.{write_reply}
use Rattle.release.proofs.Replies.{written-kept}
use Rattle.release.proofs.Plans.{count-few}
use Rattle.release.proofs.Exports.{write-exported}
use Rattle.release.proofs.flow_write_plan.Goals as goal

pub slice_bounds-words-end : goal.slice_bounds-words-end
slice_bounds-words-end c = omega (arith, c.load_grid-n.ensures.few)

pub slice_bounds-write_bytes-end : goal.slice_bounds-write_bytes-end
slice_bounds-write_bytes-end c = sym (length-take-le _ _ (omega (arith, c.load_grid-n.ensures.few, c.load_grid-n.ensures.long)))

pub pack_count-requires : goal.pack_count-requires
unfolding write_reply
pack_count-requires c = λ count e. count-few c.write_bytes.ensures.write_promise (ap write_reply e)

pub returns : goal.returns
returns c =
    let whole = write-exported c.load_grid-n.ensures.loaded c.write_bytes.ensures.plan_value c.write_bytes.ensures.write_promise c.pack_count.ensures.written (written-kept _) in
    record { plan_value = whole.0; value = whole.1.0; write_promise = whole.1.1 }
