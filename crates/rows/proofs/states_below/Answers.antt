-- `rows::states_below` meets its contract: state by state, by `gather-in`. Assumes nothing.
use mathlib.Core.Path.{refl, ap, ◌∙◌}
use Prim.Native.Nat.{ℕ}
use native.Mathlib.Omega.{arith}
use lib.Dec.{eqb}
use lib.ListN.{replicate}
use Rattle.rows.proofs.Rows.{gathered, gather_none, gather-in, gathered-below, get_or-zeros}
use Rattle.rows.proofs.states_below.Goals as goal

pub loop-q-init : goal.loop-q-init
loop-q-init c = gather_none (replicate {A = ℕ} 4 0) eqb (λ j. omega (arith, get_or-zeros 4 j))

pub loop-q-preserved : goal.loop-q-preserved
loop-q-preserved c =
    let q = c.loop-q.q in
    let next = c.insert.ensures ∙ gather-in (replicate {A = ℕ} 4 0) eqb q q c.loop-q.invariant (λ x. refl) in
    next

pub returns : goal.returns
returns c = c.loop-q.invariant ∙ ap (gathered (replicate {A = ℕ} 4 0) eqb) (omega arith) ∙ gathered-below _
