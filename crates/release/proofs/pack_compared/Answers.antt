-- `release::pack_compared` meets its contract.
use native.Mathlib.Omega.{arith}
use mathlib.Core.Path.{ap, ◌∙◌}
use Rattle.comparison.specs.Call.{compare_reply}
use Rattle.release.specs.Packed.{compare_places}
use Rattle.release.proofs.Replies.{packs-same, refused-packed, bit-most, compared-bit}
use Rattle.release.proofs.pack_compared.Goals as goal

pub overflow_mul-result-in-Ok : goal.overflow_mul-result-in-Ok
unfolding compare_reply
overflow_mul-result-in-Ok c = omega (arith, c.requires _ _ (ap compare_reply c.in-Ok.is))

pub overflow_add-result : goal.overflow_add-result
unfolding compare_reply
overflow_add-result c = omega (arith, c.requires _ _ (ap compare_reply c.in-Ok.is), bit-most c.in-Ok.c.related c.from.ensures)

pub returns-in-Err : goal.returns-in-Err
unfolding compare_reply
returns-in-Err c =
    packs-same compare_places compare_reply c.in-Err.is (c.pack_refused.ensures ∙ refused-packed compare_places c.in-Err.r)

pub returns-in-Ok : goal.returns-in-Ok
unfolding compare_reply
returns-in-Ok c = rw c.from.ensures (packs-same compare_places compare_reply c.in-Ok.is (compared-bit c.in-Ok.c.related c.in-Ok.c.steps))
