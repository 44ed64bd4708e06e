-- `release::flow_check_plan` meets its contract.
use native.Mathlib.Omega.{arith}
use mathlib.Core.Path.{sym, ap, ◌∙◌}
use lib.Seq.{length-take-le}
use Rattle.strategy.specs.Check.{check_reply}
use Rattle.release.specs.Packed.{check_places}
use Rattle.release.proofs.Packing.{unpack-refused}
use Rattle.release.proofs.Replies.{packs-same, kept_same, refused-packed, check-packed, check-kept}
use Rattle.release.proofs.Plans.{check-few}
use Rattle.release.proofs.Exports.{check-exported}
use Rattle.release.proofs.flow_check_plan.Goals as goal

pub slice_bounds-words-end : goal.slice_bounds-words-end
slice_bounds-words-end c = omega (arith, c.load_grid-n.ensures.few)

pub slice_bounds-check_bytes-end : goal.slice_bounds-check_bytes-end
slice_bounds-check_bytes-end c = sym (length-take-le _ _ (omega (arith, c.load_grid-n.ensures.few, c.load_grid-n.ensures.long)))

pub overflow_mul-result : goal.overflow_mul-result
unfolding check_reply
overflow_mul-result c = omega (arith, check-few c.check_bytes-answer.ensures.check_promise (ap check_reply c.in-Ok.is))

pub overflow_mul-result-in-Ok : goal.overflow_mul-result-in-Ok
unfolding check_reply
overflow_mul-result-in-Ok c = omega (arith, check-few c.check_bytes-answer.ensures.check_promise (ap check_reply c.in-Ok.is))

pub overflow_mul-result-in-Ok-2 : goal.overflow_mul-result-in-Ok-2
unfolding check_reply
overflow_mul-result-in-Ok-2 c = omega (arith, check-few c.check_bytes-answer.ensures.check_promise (ap check_reply c.in-Ok.is))

pub overflow_add-result-in-Ok : goal.overflow_add-result-in-Ok
unfolding check_reply
overflow_add-result-in-Ok c = omega (arith, check-few c.check_bytes-answer.ensures.check_promise (ap check_reply c.in-Ok.is))

pub overflow_add-result : goal.overflow_add-result
unfolding check_reply
overflow_add-result c = omega (arith, check-few c.check_bytes-answer.ensures.check_promise (ap check_reply c.in-Ok.is))

pub returns-in-Err : goal.returns-in-Err
unfolding check_reply
returns-in-Err c = let whole = check-exported c.load_grid-n.ensures.loaded c.check_bytes-answer.ensures.plan_value c.check_bytes-answer.ensures.check_promise
    (packs-same check_places check_reply c.in-Err.is (c.pack_refused.ensures ∙ refused-packed check_places c.in-Err.r))
    (kept_same check_places check_reply c.in-Err.is (unpack-refused check_places c.in-Err.r)) in record { plan_value = whole.0; value = whole.1.0; check_promise = whole.1.1 }

pub returns-in-Ok : goal.returns-in-Ok
unfolding check_reply
returns-in-Ok c =
    let f = check-few c.check_bytes-answer.ensures.check_promise (ap check_reply c.in-Ok.is) in let whole = check-exported c.load_grid-n.ensures.loaded c.check_bytes-answer.ensures.plan_value c.check_bytes-answer.ensures.check_promise
    (packs-same check_places check_reply c.in-Ok.is (check-packed c.in-Ok.last.p c.in-Ok.last.q c.in-Ok.last.depth))
    (kept_same check_places check_reply c.in-Ok.is (check-kept c.in-Ok.last.p c.in-Ok.last.q c.in-Ok.last.depth (omega (arith, f)) (omega (arith, f)))) in record { plan_value = whole.0; value = whole.1.0; check_promise = whole.1.1 }
