use mathlib.Core.Path.{◌≡◌}
use mathlib.Core.Bool.{Bool, cond}
use mathlib.Core.List.{List}
use Prim.Native.Nat.{ℕ, ◌≤◌}
use lib.Dec.{eqb}
use Rattle.lts.specs.Bounded.{sum_below, lowest}
use Rattle.relation.specs.Matrix.{relation_of}
use Rattle.partition.proofs.count_blocks.Given as goal

-- p is the representative of its block
abbrev pub representing : ℕ → List ℕ → ℕ → Bool
representing n blocks p = eqb (lowest n (relation_of n blocks p)) p

abbrev pub invariant-loop-p : goal.invariant-loop-p
invariant-loop-p l = (l.total ≤ l.p) × (l.total ≡ sum_below l.p (λ i. cond (representing l.n l.blocks i) 1 0))
