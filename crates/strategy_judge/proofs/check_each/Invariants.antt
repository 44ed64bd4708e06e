use mathlib.Core.Path.{◌≡◌}
use mathlib.Core.List.{List}
use lib.ListN.{length, take}
use Rattle.lts.specs.declared.Entry.{Entry}
use Rattle.transitions.specs.Table.{states_of, table_lts}
use Rattle.relation.specs.Matrix.{relation_of}
use Rattle.strategy_judge.specs.Judging.{Judging, Gives}
use Rattle.strategy_judge.proofs.check_each.Given as goal

-- before a turn the first i entries are judged
abbrev pub invariant-loop-i : goal.invariant-loop-i
invariant-loop-i g l =
    ((es : List Entry) → length es ≡ l.count → Gives (goal.F-post g l.entry) es
    → Judging (table_lts l.table) (relation_of (states_of l.table) l.start) (take l.i es) l.judged)
    × (length l.judged ≡ 65540)
