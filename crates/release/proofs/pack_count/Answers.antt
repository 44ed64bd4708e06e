-- `release::pack_count` meets its contract.
use native.Mathlib.Omega.{arith}
use mathlib.Core.Path.{◌∙◌}
use Rattle.disjoint_union.specs.Join.{join_reply}
use Rattle.strategy.specs.Write.{write_reply}
use Rattle.release.specs.Packed.{one_place}
use Rattle.release.proofs.Replies.{packs-same, refused-packed, one-packed}
use Rattle.release.proofs.pack_count.Goals as goal

pub overflow_mul-result : goal.overflow_mul-result
overflow_mul-result c = omega (arith, c.requires _ c.in-Ok.is)

pub returns-in-Err : goal.returns-in-Err
unfolding join_reply write_reply
returns-in-Err c =
    let packs = c.pack_refused.ensures ∙ refused-packed one_place c.in-Err.r in
    record { joined = packs-same one_place join_reply c.in-Err.is packs; written = packs-same one_place write_reply c.in-Err.is packs }

pub returns-in-Ok : goal.returns-in-Ok
unfolding join_reply write_reply
returns-in-Ok c =
    let packs = one-packed c.in-Ok.count in
    record { joined = packs-same one_place join_reply c.in-Ok.is packs; written = packs-same one_place write_reply c.in-Ok.is packs }
