-- The termination preorder is a preorder, and compare's yes says that some simulation inside its start relates the two initial states.
use Prim.Native.Nat.{ℕ}
use mathlib.Core.Logic.{◌↔◌}
use mathlib.Core.List.{List, []}
use lib.Dec.{T}
use Rattle.lts.specs.System.{Rel, Lts, WellFormed, reflexive, transitive, termination_preorder, Relation, Simulation}
use Rattle.lts.specs.Refinement.{coarsest}
use Rattle.lts.specs.Union.{disjoint_union, comparison, simulated}
use Rattle.lts.proofs.Bounded.{imp-iff}
use Rattle.lts.proofs.System.{Preorder, preorder-iff}
use Rattle.lts.proofs.Step.{On}
use Rattle.lts.proofs.Run.{Coarsest, coarsest-is}
use Rattle.lts.proofs.Union.{union-formed}

termination-loop : (L : Lts) (p : ℕ) → T (termination_preorder L p p)
unfolding termination_preorder
termination-loop L p = (imp-iff (L.terminating p) (L.terminating p)).1 (λ t. t)

termination-chain : (L : Lts) (p q r : ℕ) → T (termination_preorder L p q) → T (termination_preorder L q r) → T (termination_preorder L p r)
unfolding termination_preorder
termination-chain L p q r u v =
    (imp-iff (L.terminating p) (L.terminating r)).1
    (λ t. (imp-iff (L.terminating q) (L.terminating r)).0 v ((imp-iff (L.terminating p) (L.terminating q)).0 u t))

pub termination-preorder : (L : Lts) → Preorder L (termination_preorder L)
termination-preorder L = record { loop = λ p _. termination-loop L p; chain = λ p q r _ _ _. termination-chain L p q r }

pub termination-tests : (L : Lts) → T (reflexive L (termination_preorder L)) × T (transitive L (termination_preorder L))
termination-tests L = (preorder-iff L (termination_preorder L)).1 (termination-preorder L)

-- yes exactly if some simulation inside the start of the disjoint union relates state 0 of L to state 0 of M
pub simulated-iff : (start : Lts → Rel) (L M : Lts) → WellFormed L → WellFormed M → Preorder (disjoint_union L M) (start (disjoint_union L M))
    → T (simulated start L M) ↔ ((S : Relation) × Simulation (disjoint_union L M) (start (disjoint_union L M)) S × S 0 L.states)
unfolding simulated comparison
simulated-iff start L M l m pre = (
  λ t. (On (coarsest U (start U) []).final.related, is.simulates, t),
  λ s. is.greatest s.0 s.1 0 L.states s.2,
)
  where
    U : Lts
    U = disjoint_union L M

    is : Coarsest U (start U) (coarsest U (start U) []).final.related
    is = coarsest-is U (union-formed L M l m) (start U) pre []

-- a finer preorder keeps no pair more
pub coarsest-monotone : (L : Lts) → WellFormed L → (R S : Rel) → Preorder L R → Preorder L S → ((p q : ℕ) → T (R p q) → T (S p q))
    → (es fs : List ℕ) (p q : ℕ) → T ((coarsest L R es).final.related p q) → T ((coarsest L S fs).final.related p q)
coarsest-monotone L wf R S r s h es fs = (coarsest-is L wf S s fs).greatest (On (coarsest L R es).final.related) (record {
  states = λ k. sim.states k;
  inside = λ {p} {q} k. h p q (sim.inside k);
  answer = λ a t k m. sim.answer a t k m;
})
  where
    sim : Simulation L R (On (coarsest L R es).final.related)
    sim = (coarsest-is L wf R r es).simulates
