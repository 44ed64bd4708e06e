use Prim.Native.Nat.{ℕ, ◌≤◌, ◌<◌}
use mathlib.Core.Path.{◌≡◌}
use lib.ListN.{length, get_or}
use Rattle.transitions.proofs.keep_actions.Given as goal

abbrev pub invariant-loop-a : goal.invariant-loop-a
invariant-loop-a l = (length l.to ≡ 65) × ((b : ℕ) → 1 ≤ b → b < l.a → get_or l.to b 0 ≡ b)
