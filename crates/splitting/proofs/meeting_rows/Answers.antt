-- `splitting::meeting_rows` meets its contract: a member that is not shared is alone in its block. Assumes nothing.
use Rattle.rows.specs.Rows.{in_row}
use Rattle.sets.specs.Sets.{set_at}
use Rattle.sets.proofs.Lists.{set-in}
use Rattle.splitting.proofs.Joining.{meets-shared}
use Rattle.splitting.proofs.meeting_rows.Goals as goal

pub returns : goal.returns
returns c =
    let meet-is = c.meet-cut.ensures in
    let joined_is = c.joined.ensures in
    let join_is = c.join.ensures in
    meets-shared (set_at c.args.blocks.now) (in_row c.args.shared) c.requires.1 (in_row c.args.set) _ _ _ c.requires.2 (set-in _ meet-is) joined_is
    (set-in _ join_is)
