use mathlib.Core.Path.{◌≡◌}
use lib.ListN.{get_or}
use Rattle.rows.proofs.Rows.{picked}
use Rattle.starts.specs.Start.{same_set}
use Rattle.starts.proofs.alike.Given as goal

abbrev pub invariant-loop-q : goal.invariant-loop-q
invariant-loop-q l = l.set ≡ picked (λ i. same_set (get_or l.words l.p 0) (get_or l.words i 0)) l.q
