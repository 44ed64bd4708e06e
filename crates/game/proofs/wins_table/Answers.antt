-- `game::wins_table` meets its contract: blank cells are right.
use native.Mathlib.Omega.{arith}
use mathlib.Core.Path.{sym}
use Rattle.game.proofs.Cells.{size_small, blank-size, right-blank}
use Rattle.game.proofs.wins_table.Goals as goal

pub slice_bounds-challenger-end : goal.slice_bounds-challenger-end
slice_bounds-challenger-end c = sym (blank-size c.states-n.result 393216 (size_small (omega (arith, c.states-n.ensures.0, c.requires.playable.table.states))))

pub challenger-requires-clause-playable : goal.challenger-requires-clause-playable
challenger-requires-clause-playable c =
    (c.requires.playable, right-blank c.args.table.now c.args.start.now c.states-n.result 393216 c.states-n.ensures.0 (size_small (omega (arith, c.states-n.ensures.0, c.requires.playable.table.states))))
