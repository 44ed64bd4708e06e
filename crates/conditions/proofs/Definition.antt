-- Definition 2.1 of document 000, condition by condition. Assumes nothing.
use Prim.Native.Nat.{ℕ, ◌<◌}
use mathlib.Core.Logic.{◌↔◌}
use lib.Dec.{T}
use Rattle.lts.specs.System.{Rel, Lts, WellFormed, termination_preorder, answered, within}
use Rattle.lts.proofs.Bounded.{and-iff, imp-iff}
use Rattle.lts.proofs.System.{answered-iff, within-iff}
use Rattle.conditions.specs.Conditions.{Starting, Transfer, both_conditions}

-- in the end start, the starting condition is the definition's first: if p has the end mark, then q has it
pub starting-ends : (L : Lts) (p q : ℕ) → Starting (termination_preorder L) p q ↔ (T (L.terminating p) → T (L.terminating q))
unfolding termination_preorder
starting-ends L p q = imp-iff (L.terminating p) (L.terminating q)

-- the test of all pairs of R passes exactly if each of them meets the two conditions
pub definition : {L : Lts} → WellFormed L → (start R : Rel)
    → T (within L R (both_conditions L start R)) ↔ ((p q : ℕ) → p < L.states → q < L.states → T (R p q) → Starting start p q × Transfer L R p q)
unfolding both_conditions
definition {L} wf start R = (
  λ e p q lp lq r.
      let b = (and-iff (start p q) (answered L R p q)).0 ((within-iff L R (both_conditions L start R)).0 e p q lp lq r) in
      (b.0, (answered-iff wf R p q).0 b.1),
  λ h. (within-iff L R (both_conditions L start R)).1 (λ p q lp lq r.
      let b = h p q lp lq r in (and-iff (start p q) (answered L R p q)).1 (b.0, (answered-iff wf R p q).1 b.1)),
)
