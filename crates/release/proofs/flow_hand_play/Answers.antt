-- `release::flow_hand_play` meets its contract.
use native.Mathlib.Omega.{arith}
use mathlib.Core.Path.{sym}
use lib.Seq.{length-take-le}
use Rattle.release.proofs.Replies.{played-kept}
use Rattle.release.proofs.Exports.{play-exported}
use Rattle.release.proofs.flow_hand_play.Goals as goal

pub slice_bounds-words-end : goal.slice_bounds-words-end
slice_bounds-words-end c = omega (arith, c.load_grid-n.ensures.few)

pub slice_bounds-hand_play-end : goal.slice_bounds-hand_play-end
slice_bounds-hand_play-end c = sym (length-take-le _ _ (omega (arith, c.load_grid-n.ensures.few, c.load_grid-n.ensures.long)))

pub returns : goal.returns
returns c = let whole = play-exported c.load_grid-n.ensures.loaded c.hand_play.ensures.rounds_value c.hand_play.ensures.play_promise c.pack_decided.ensures.played (played-kept _) in record { rounds_value = whole.0; value = whole.1.0; play_promise = whole.1.1 }
