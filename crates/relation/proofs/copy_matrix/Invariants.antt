use mathlib.Core.Path.{◌≡◌}
use mathlib.Core.List.{◌++◌}
use lib.ListN.{drop, get_or}
use Rattle.lts.specs.Bounded.{list_below}
use Rattle.relation.proofs.copy_matrix.Given as goal

abbrev pub invariant-loop-j : goal.invariant-loop-j
invariant-loop-j l = l.grid ≡ list_below l.j (λ i. get_or l.from i 0) ++ drop l.j l.initial.grid
