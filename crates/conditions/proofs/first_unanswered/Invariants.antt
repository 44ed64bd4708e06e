use Prim.Native.Nat.{◌≤◌}
use mathlib.Core.Path.{◌≡◌}
use mathlib.Core.Bool.{true}
use Rattle.transitions.specs.Table.{states_of, count_of, offset_at}
use Rattle.transitions.proofs.Entries.{Between}
use Rattle.relation.specs.Matrix.{relation_of}
use Rattle.conditions.specs.Conditions.{answered_by}
use Rattle.conditions.proofs.first_unanswered.Given as goal

abbrev pub invariant-loop-i : goal.invariant-loop-i
invariant-loop-i l =
    (l.end ≤ count_of l.table) × Between (λ j. answered_by l.table (relation_of (states_of l.table) l.grid) l.q j ≡ true) (offset_at l.table l.p) l.i
