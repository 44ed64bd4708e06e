use mathlib.Core.Path.{◌≡◌}
use mathlib.Core.Bool.{true}
use Prim.Native.Nat.{ℕ, ◌≤◌, ◌<◌}
use Rattle.relation.specs.Matrix.{relation_of}
use Rattle.relation.specs.Check.{transitive_at}
use Rattle.relation.proofs.is_transitive.Given as goal

abbrev pub invariant-loop-p : goal.invariant-loop-p
invariant-loop-p l = (t : ℕ) → l.p ≤ t → t < l.n → transitive_at l.n (relation_of l.n l.grid) t ≡ true
