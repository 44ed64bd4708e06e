use mathlib.Core.Path.{◌≡◌}
use mathlib.Core.Bool.{true}
use Prim.Native.Nat.{◌*◌, ◌≤◌, ◌<◌, ◌-◌}
use lib.ListN.{length}
use Rattle.rows.specs.Rows.{in_row}
use Rattle.relation.specs.Matrix.{relation_of}
use Rattle.relation.specs.Tested.{Left}
use Rattle.relation.proofs.transitive_above.Given as goal

abbrev pub invariant-loop-q : goal.invariant-loop-q
invariant-loop-q l = (l.q ≤ l.w * 64) × (l.p < l.q) × (l.q < l.n → in_row l.left l.q ≡ true) × (length l.left ≡ length l.initial.left) × Left l.n (relation_of l.n l.grid) l.p l.left

abbrev pub decreases-loop-q : goal.decreases-loop-q
decreases-loop-q l = l.w * 64 - l.q
