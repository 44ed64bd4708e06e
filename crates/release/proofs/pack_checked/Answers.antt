-- `release::pack_checked` meets its contract.
use mathlib.Core.Path.{refl, ◌∙◌}
use Rattle.lts.specs.Rule.{checked_reply}
use Rattle.release.specs.Packed.{packed, placed, no_place}
use Rattle.release.proofs.Replies.{packs-same, refused-packed}
use Rattle.release.proofs.pack_checked.Goals as goal

pub returns-in-Err : goal.returns-in-Err
unfolding checked_reply
returns-in-Err c =
    packs-same no_place checked_reply c.in-Err.is (c.pack_refused.ensures ∙ refused-packed no_place c.in-Err.r)

pub returns-in-Ok : goal.returns-in-Ok
unfolding checked_reply packed placed
returns-in-Ok c = packs-same no_place checked_reply c.in-Ok.is refl
