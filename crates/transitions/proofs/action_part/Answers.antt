-- `transitions::action_part` meets its contract: by `tail-part`. Assumes nothing.
use Prim.Native.Nat.{◌*◌}
use Rattle.rows.proofs.Rows.{tail-part}
use Rattle.transitions.proofs.action_part.Goals as goal

pub returns : goal.returns
returns c = tail-part (4 * c.args.a) c.args.sets.now
