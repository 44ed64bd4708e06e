use Prim.Native.Nat.{ℕ, ◌+◌}
use mathlib.Core.Path.{◌≡◌}
use mathlib.Core.Bool.{Bool}
use mathlib.Core.List.{List}
use lib.ListN.{length}
use Rattle.lts.specs.Bounded.{concat_below}
use Rattle.lts.specs.declared.Entry.{Entry}
use Rattle.transitions.specs.Table.{table_lts}
use Rattle.strategy_write.specs.Writing.{pairs_of, cell_entries}
use Rattle.strategy_write.proofs.Writes.{written}
use Rattle.strategy_write.proofs.write_row.Given as goal

-- the entries of the cells of row p
abbrev pub cells : List ℕ → List ℕ → List ℕ → Bool → ℕ → ℕ → List Entry
cells table before after initial p = cell_entries (table_lts table) initial (pairs_of table before) (pairs_of table after) p

abbrev pub invariant-loop-q : goal.invariant-loop-q
invariant-loop-q l = (l.at ≡ l.first + length (concat_below l.q (cells l.step.table.now l.step.before.now l.step.after.now l.step.initial l.p))) × (l.numbers ≡ written l.initial.numbers l.first (cells l.step.table.now l.step.before.now l.step.after.now l.step.initial l.p) l.q)
