use mathlib.Core.Path.{◌≡◌}
use Rattle.lts.specs.Strategy.{entries_of}
use Rattle.strategy_entries.proofs.Copies.{filled}
use Rattle.strategy_entries.proofs.copy_in.Given as goal

-- before turn i the list is the first i entries of the numbers and then what was there
abbrev pub invariant-loop-i : goal.invariant-loop-i
invariant-loop-i l = l.plan ≡ filled l.i (entries_of l.numbers) l.initial.plan
