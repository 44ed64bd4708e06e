use Prim.Native.Nat.{◌+◌, ◌*◌, ◌≤◌}
use Rattle.relation.specs.Matrix.{relation_of}
use Rattle.lines.proofs.Laws.{Put, lines_to}
use Rattle.lines.proofs.put_states.Given as goal

abbrev pub invariant-loop-p : goal.invariant-loop-p
invariant-loop-p l =
    (l.at ≤ l.from + 1040 * l.p) × Put l.from (lines_to l.n (relation_of l.n l.grid) l.representatives l.p) l.initial.out l.out l.at
