use mathlib.Core.Path.{◌≡◌}
use lib.Dec.{eqb}
use Rattle.rows.proofs.Rows.{picked}
use Rattle.transitions.specs.Table.{mark_at}
use Rattle.transitions.proofs.terminating.Given as goal

abbrev pub invariant-loop-p : goal.invariant-loop-p
invariant-loop-p l = l.set ≡ picked (λ i. eqb (mark_at l.table i) 1) l.p
