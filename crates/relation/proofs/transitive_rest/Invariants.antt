use mathlib.Core.Path.{◌≡◌}
use mathlib.Core.Bool.{true}
use Prim.Native.Nat.{ℕ, ◌*◌, ◌≤◌, ◌<◌, ◌-◌}
use Rattle.rows.specs.Rows.{in_row}
use Rattle.relation.specs.Matrix.{relation_of}
use Rattle.relation.specs.Check.{transitive_pair}
use Rattle.relation.proofs.transitive_rest.Given as goal

abbrev pub invariant-loop-q : goal.invariant-loop-q
invariant-loop-q l = (l.q ≤ l.w * 64) × (l.q < l.n → in_row l.left l.q ≡ true) × ((t : ℕ) → t < l.q → t < l.n → transitive_pair l.n (relation_of l.n l.grid) l.p t ≡ true)

abbrev pub decreases-loop-q : goal.decreases-loop-q
decreases-loop-q l = l.w * 64 - l.q
