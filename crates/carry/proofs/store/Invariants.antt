use Prim.Native.Nat.{◌*◌}
use mathlib.Core.Path.{◌≡◌}
use mathlib.Core.List.{◌++◌}
use lib.ListN.{take, drop}
use Rattle.carry.specs.Carried.{bytes_of}
use Rattle.carry.proofs.store.Given as goal

abbrev pub invariant-loop-i : goal.invariant-loop-i
invariant-loop-i g l = l.bytes ≡ bytes_of g.row.K (take l.i (g.T.Number.values l.numbers)) ++ drop (g.row.K * l.i) l.initial.bytes
