use Prim.Native.Nat.{ℕ, ◌-◌, ◌≤◌}
use mathlib.Core.List.{List}
use lib.Dec.{eqb}
use Rattle.encoding.specs.Records.{state_record}
use Rattle.transitions.specs.Maps.{goes_to, Linked}
use Rattle.transitions.proofs.Links.{Seeking}
use Rattle.transitions.proofs.row_mark.Given as goal

abbrev pub invariant-loop-p : goal.invariant-loop-p
invariant-loop-p l = (l.p ≤ 256) × ((maps : List ℕ) → Linked l.h.states maps l.links → Seeking (goes_to l.h.states maps l.i) (λ q. eqb (state_record l.s l.h q).mark 1) l.p)

abbrev pub decreases-loop-p : goal.decreases-loop-p
decreases-loop-p l = 256 - l.p
