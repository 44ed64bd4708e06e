use mathlib.Core.Path.{◌≡◌}
use mathlib.Core.List.{◌++◌}
use Prim.Native.Nat.{◌*◌}
use lib.ListN.{length, drop}
use Rattle.lts.specs.Ready.{ready_preorder}
use Rattle.rows.specs.Rows.{row_words}
use Rattle.relation.proofs.Matrices.{rows_to}
use Rattle.transitions.specs.Table.{table_lts}
use Rattle.starts.proofs.write_ready.Given as goal

abbrev pub invariant-loop-p : goal.invariant-loop-p
invariant-loop-p l =
    (length l.grid ≡ length l.initial.grid) × (l.grid ≡ rows_to l.n (ready_preorder (table_lts l.table)) l.p ++ drop (l.p * row_words l.n) l.initial.grid)
