-- `game::wins_readable` meets its contract: the table that it loads holds the encoding's system.
use mathlib.Core.Path.{◌∙◌}
use native.Mathlib.Omega.{arith}
use Rattle.transitions.proofs.Filled.{sheet-states}
use Rattle.game.proofs.Plays.{loaded-playable, wins-loaded}
use Rattle.game.proofs.wins_readable.Goals as goal

pub wins_table-requires : goal.wins_table-requires
wins_table-requires c =
    let k = c.load-table.ensures in
    let n = sheet-states _ _ c.requires.0 k in
    record { playable = loaded-playable _ _ c.requires.0 k _ c.requires.1; p_bound = (omega (arith, n, c.requires.2), omega (arith, n, c.requires.3), c.requires.4) }

pub returns : goal.returns
returns c = c.wins_table.ensures ∙ wins-loaded _ _ c.requires.0 c.load-table.ensures _ _ _ _
