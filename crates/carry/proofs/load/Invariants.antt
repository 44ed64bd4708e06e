use mathlib.Core.Path.{◌≡◌}
use mathlib.Core.List.{◌++◌}
use lib.ListN.{drop}
use Rattle.carry.specs.Carried.{numbers_of}
use Rattle.carry.proofs.load.Given as goal

abbrev pub invariant-loop-i : goal.invariant-loop-i
invariant-loop-i g l = let m = g.T.Number in m.values l.numbers ≡ numbers_of g.row.K l.i l.bytes ++ drop l.i (m.values l.initial.numbers)
