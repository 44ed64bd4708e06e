use Prim.Native.Nat.{ℕ, ◌-◌, ◌*◌, ◌≤◌, ◌<◌}
use mathlib.Core.Path.{◌≡◌}
use mathlib.Core.Bool.{true}
use mathlib.Core.List.{List}
use Rattle.lts.specs.Bounded.{◌⇒◌}
use Rattle.lts.specs.System.{Rel}
use Rattle.rows.specs.Rows.{in_row}
use Rattle.transitions.specs.Table.{states_of, table_lts}
use Rattle.relation.specs.Matrix.{relation_of}
use Rattle.conditions.specs.Conditions.{both_conditions}
use Rattle.conditions.proofs.row_passes.Given as goal

-- whether a pair meets the conditions
abbrev pub test : List ℕ → List ℕ → List ℕ → Rel
test table start claim = both_conditions (table_lts table) (relation_of (states_of table) start) (relation_of (states_of table) claim)

abbrev pub invariant-loop-q : goal.invariant-loop-q
invariant-loop-q l =
    (l.q ≤ l.w * 64) × (l.q < l.w * 64 → in_row l.row l.q ≡ true) × ((x : ℕ) → x < l.q → (in_row l.row x ⇒ test l.table l.start l.claim l.p x) ≡ true)

abbrev pub decreases-loop-q : goal.decreases-loop-q
decreases-loop-q l = l.w * 64 - l.q
