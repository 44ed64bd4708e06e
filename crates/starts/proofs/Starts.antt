-- Either start of a well-formed system is a preorder.
use mathlib.Core.Bool.{Bool, true, false}
use Rattle.lts.specs.System.{Lts, WellFormed}
use Rattle.lts.proofs.System.{Preorder}
use Rattle.lts.proofs.Comparison.{termination-preorder}
use Rattle.lts.proofs.Ready.{ready-preorder}
use Rattle.starts.specs.Start.{written_start}

pub start-preorder : (ready : Bool) (L : Lts) → WellFormed L → Preorder L (written_start ready L)
unfolding written_start
start-preorder true L formed = ready-preorder L formed
start-preorder false L formed = termination-preorder L
