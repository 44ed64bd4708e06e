use mathlib.Core.Path.{◌≡◌}
use lib.ListN.{length}
use Rattle.strategy_rounds.proofs.Searches.{Searching}
use Rattle.strategy_rounds.proofs.search_rounds.Given as goal

abbrev pub invariant-loop-j : goal.invariant-loop-j
invariant-loop-j l = (length l.next ≡ length l.initial.current) × Searching l.table l.initial.current l.p l.q l.j l.left l.current l.settled
