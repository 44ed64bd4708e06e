use Prim.Native.Nat.{◌+◌, ◌-◌, ◌^◌, ◌<◌, ◌≤◌}
use mathlib.Core.Path.{◌≡◌}
use lib.Seq.{slice}
use Rattle.carry.specs.Carried.{number_of}
use Rattle.carry.proofs.read_number.Given as goal

abbrev pub invariant-loop-j : goal.invariant-loop-j
invariant-loop-j l = (l.at ≤ l.j) × (l.x ≡ number_of (slice l.j (l.at + l.k) l.bytes)) × (l.x < 256 ^ (l.at + l.k - l.j))
