use mathlib.Core.Path.{◌≡◌}
use Prim.Native.Nat.{ℕ}
use lib.Dec.{eqb}
use lib.ListN.{replicate}
use Rattle.rows.proofs.Rows.{gathered}
use Rattle.rows.proofs.states_below.Given as goal

abbrev pub invariant-loop-q : goal.invariant-loop-q
invariant-loop-q l = l.out ≡ gathered (replicate {A = ℕ} 4 0) eqb l.q
