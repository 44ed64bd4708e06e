use mathlib.Core.Path.{◌≡◌}
use mathlib.Core.List.{◌++◌}
use lib.ListN.{drop}
use Rattle.lts.specs.Bounded.{list_below, lowest}
use Rattle.relation.specs.Matrix.{relation_of}
use Rattle.partition.proofs.write_names.Given as goal

abbrev pub invariant-loop-p : goal.invariant-loop-p
invariant-loop-p l = l.names ≡ list_below l.p (λ i. lowest l.n (relation_of l.n l.blocks i)) ++ drop l.p l.initial.names
