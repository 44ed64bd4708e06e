use Prim.Native.Nat.{◌+◌, ◌*◌, ◌≤◌}
use Rattle.lts.specs.Bounded.{concat_below}
use Rattle.relation.specs.Matrix.{relation_of}
use Rattle.lines.specs.Lines.{related_text}
use Rattle.lines.proofs.Laws.{Put}
use Rattle.lines.proofs.put_row.Given as goal

abbrev pub invariant-loop-q : goal.invariant-loop-q
invariant-loop-q l = (l.at ≤ l.from + 4 * l.q) × Put l.from (concat_below l.q (related_text (relation_of l.n l.grid) l.p)) l.initial.out l.out l.at
