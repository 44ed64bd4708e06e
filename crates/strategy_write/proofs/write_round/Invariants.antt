use Prim.Native.Nat.{ℕ, ◌+◌}
use mathlib.Core.Path.{◌≡◌}
use mathlib.Core.Bool.{Bool}
use mathlib.Core.List.{List}
use lib.ListN.{length}
use Rattle.lts.specs.Bounded.{concat_below}
use Rattle.lts.specs.declared.Entry.{Entry}
use Rattle.transitions.specs.Table.{table_lts}
use Rattle.strategy_write.specs.Writing.{pairs_of, row_entries}
use Rattle.strategy_write.proofs.Writes.{written}
use Rattle.strategy_write.proofs.write_round.Given as goal

-- the entries of the rows
abbrev pub rows : List ℕ → List ℕ → List ℕ → Bool → ℕ → List Entry
rows table before after initial = row_entries (table_lts table) initial (pairs_of table before) (pairs_of table after)

abbrev pub invariant-loop-p : goal.invariant-loop-p
invariant-loop-p l = (l.at ≡ l.first + length (concat_below l.p (rows l.step.table.now l.step.before.now l.step.after.now l.step.initial))) × (l.numbers ≡ written l.initial.numbers l.first (rows l.step.table.now l.step.before.now l.step.after.now l.step.initial) l.p)
