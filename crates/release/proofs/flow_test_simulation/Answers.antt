-- `release::flow_test_simulation` meets its contract.
use native.Mathlib.Omega.{arith}
use mathlib.Core.Path.{◌≡◌, sym}
use lib.Seq.{length-take-le}
use Rattle.std.proofs.Common.{rules}
use Rattle.simulation.specs.Calls.{simulation_reply}
use Rattle.release.specs.Packed.{packed, one_place}
use Rattle.release.proofs.Replies.{tested-kept}
use Rattle.release.proofs.Exports.{simulation-exported}
use Rattle.release.proofs.flow_test_simulation.Goals as goal

pub slice_bounds-start_words-end : goal.slice_bounds-start_words-end
slice_bounds-start_words-end c = omega (arith, c.load_grid-m.ensures.few)

pub slice_bounds-is_simulation-end : goal.slice_bounds-is_simulation-end
slice_bounds-is_simulation-end c = sym (length-take-le _ _ (omega (arith, c.load_grid-m.ensures.few, c.load_grid-m.ensures.long)))

pub slice_bounds-claim_words-end : goal.slice_bounds-claim_words-end
slice_bounds-claim_words-end c = omega (arith, c.load_grid-n.ensures.few)

pub slice_bounds-is_simulation-end-2 : goal.slice_bounds-is_simulation-end-2
slice_bounds-is_simulation-end-2 c = sym (length-take-le _ _ (omega (arith, c.load_grid-n.ensures.few, c.load_grid-n.ensures.long)))

pub returns : goal.returns
returns c =
    let w = c.load_grid-m.ensures.loaded in
    let v = c.load_grid-n.ensures.loaded in
    let p : c.pack_decided.result ≡ packed one_place (simulation_reply c.is_simulation.result) = search rules in
    let whole = simulation-exported w v c.is_simulation.ensures.claim_value c.is_simulation.ensures.simulation_promise p (tested-kept _) in
    record { claim_value = whole.0; value = whole.1.0; simulation_promise = whole.1.1 }
