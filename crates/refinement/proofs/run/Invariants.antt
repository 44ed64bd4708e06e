use mathlib.Core.Path.{◌≡◌}
use mathlib.Core.List.{List}
use Prim.Native.Nat.{ℕ, ◌-◌}
use lib.Dec.{ltb}
use Rattle.rows.specs.Rows.{row_of}
use Rattle.relation.specs.Matrix.{relation_of}
use Rattle.transitions.specs.Table.{states_of, table_lts}
use Rattle.adjacency.specs.Adjacency.{Index}
use Rattle.refinement.specs.Engine.{Start, State}
use Rattle.refinement.proofs.Loop.{At}
use Rattle.refinement.proofs.run.Given as goal

abbrev pub invariant-loop-all : goal.invariant-loop-all
invariant-loop-all l =
    (t start : List ℕ) → Index t l.places l.rows → Start (states_of t) start → l.all ≡ row_of 4 (λ q. ltb q (states_of t))
    → State (table_lts t) (relation_of (states_of t) start) l.schedule 0 l.initial.related l.initial.viewed l.initial.blocks → At t start l.schedule l.steps l.related l.viewed l.blocks l.shared l.pending

abbrev pub decreases-loop-all : goal.decreases-loop-all
decreases-loop-all l = 65536 - l.steps
