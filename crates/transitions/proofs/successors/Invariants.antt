use mathlib.Core.Path.{◌≡◌}
use lib.ListN.{replicate}
use Rattle.rows.proofs.Rows.{gathered}
use Rattle.transitions.specs.Table.{is_entry}
use Rattle.transitions.proofs.successors.Given as goal

abbrev pub invariant-loop-i : goal.invariant-loop-i
invariant-loop-i l = l.set ≡ gathered (replicate 4 0) (λ q i. is_entry l.table l.p l.a q i) l.i
