-- `release::pack_decided` meets its contract.
use mathlib.Core.Path.{◌∙◌}
use Rattle.simulation.specs.Calls.{simulation_reply}
use Rattle.game.specs.Play.{play_reply}
use Rattle.release.specs.Packed.{one_place}
use Rattle.release.proofs.Replies.{packs-same, refused-packed, decided-packed}
use Rattle.release.proofs.pack_decided.Goals as goal

pub returns-in-Err : goal.returns-in-Err
unfolding simulation_reply play_reply
returns-in-Err c =
    let packs = c.pack_refused.ensures ∙ refused-packed one_place c.in-Err.r in
    record { tested = packs-same one_place simulation_reply c.in-Err.is packs; played = packs-same one_place play_reply c.in-Err.is packs }

pub returns-in-Ok : goal.returns-in-Ok
unfolding simulation_reply play_reply
returns-in-Ok c =
    let packs = decided-packed c.in-Ok.yes in
    rw c.from.ensures
    (record { tested = packs-same one_place simulation_reply c.in-Ok.is packs; played = packs-same one_place play_reply c.in-Ok.is packs })
