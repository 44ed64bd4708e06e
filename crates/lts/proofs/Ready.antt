-- The ready start is a preorder inside the termination preorder. What is proved of it is the record `Ready` of specs/Ready.antt.
use Prim.Native.Nat.{ℕ, zero, suc, ◌≤◌, ◌<◌}
use native.Mathlib.Nat.{not-suc-le-zero}
use mathlib.Core.Logic.{◌↔◌}
use mathlib.Core.Bool.{Bool, true, beq}
use mathlib.Core.List.{List, []}
use lib.Dec.{T}
use Rattle.lts.specs.System.{Rel, Lts, WellFormed, all_actions, into, reflexive, transitive, termination_preorder, within, is_simulation}
use Rattle.lts.specs.Refinement.{coarsest}
use Rattle.lts.specs.Union.{disjoint_union, comparison, simulated}
use Rattle.lts.specs.Ready.{Offers, SameActions, same_actions, ready_preorder, ReadySimulation, Ready}
use Rattle.lts.proofs.Bounded.{and-iff, imp-iff, beq-iff, all-iff}
use Rattle.lts.proofs.System.{into-to, into-from, Preorder, preorder-iff, within-iff}
use Rattle.lts.proofs.Run.{coarsest-is}
use Rattle.lts.proofs.Comparison.{termination-preorder, coarsest-monotone}
use Rattle.lts.proofs.Demand.{is-coarsest}

module _ (L : Lts) (wf : WellFormed L) where
  -- p has a transition by a
  offers-iff : (p a : ℕ) → T (into L a (λ t. true) p) ↔ Offers L p a
  offers-iff p a = (λ t. let s = into-to L a (λ t. true) p t in (s.0, s.1), λ s. into-from wf a (λ t. true) p (s.0, s.1, tt))

  -- the test of `same_actions` is about all actions
  pub same-actions-iff : (p q : ℕ) → T (same_actions L p q) ↔ SameActions L p q
  unfolding same_actions all_actions
  same-actions-iff p q = (λ t a. (λ s. (to t a (wf.action p a s.0 s.1)).0 s, λ s. (to t a (wf.action q a s.0 s.1)).1 s), from)
    where
      able : ℕ → ℕ → Bool
      able p a = into L a (λ t. true) p

      test : ℕ → Bool
      test a = beq (able p a) (able q a)

      to : T (same_actions L p q) → (a : ℕ) → (1 ≤ a) × (a ≤ L.actions) → Offers L p a ↔ Offers L q a
      to t zero l = absurd (not-suc-le-zero l.0)
      to t (suc a) l =
          let e = (beq-iff (able p (suc a)) (able q (suc a))).0 ((all-iff L.actions (λ a. test (suc a))).0 t a l.1) in
          let c = offers-iff p (suc a) in
          let d = offers-iff q (suc a) in
          (λ s. d.0 (e.0 (c.1 s)), λ s. c.0 (e.1 (d.1 s)))

      from : SameActions L p q → T (same_actions L p q)
      from h =
          (all-iff L.actions (λ a. test (suc a))).1
          (λ a _.
          let c = offers-iff p (suc a) in
          let d = offers-iff q (suc a) in
          (beq-iff (able p (suc a)) (able q (suc a))).1 (λ t. d.1 ((h (suc a)).0 (c.0 t)), λ t. c.1 ((h (suc a)).1 (d.0 t))))

  both_iff : (p q : ℕ) → T (ready_preorder L p q) ↔ (T (termination_preorder L p q) × SameActions L p q)
  unfolding ready_preorder
  both_iff p q =
      let e = and-iff (termination_preorder L p q) (same_actions L p q) in
      let d = same-actions-iff p q in
      (λ t. ((e.0 t).0, d.0 (e.0 t).1), λ s. e.1 (s.0, d.1 s.1))

  pub ready-iff : (p q : ℕ) → T (ready_preorder L p q) ↔ ((T (L.terminating p) → T (L.terminating q)) × SameActions L p q)
  unfolding termination_preorder
  ready-iff p q =
      let e = imp-iff (L.terminating p) (L.terminating q) in
      let b = both_iff p q in
      (λ t. (e.0 (b.0 t).0, (b.0 t).1), λ s. b.1 (e.1 s.0, s.1))

  pub ready-preorder : Preorder L (ready_preorder L)
  ready-preorder = record {
    loop = λ p l. (both_iff p p).1 ((termination-preorder L).loop p l, λ a. (λ s. s, λ s. s));
    chain = λ p q r l m n u v.
        let c = (both_iff p q).0 u in
        let d = (both_iff q r).0 v in
        (both_iff p r).1 ((termination-preorder L).chain p q r l m n c.0 d.0, λ a. (λ s. (d.1 a).0 ((c.1 a).0 s), λ s. (c.1 a).1 ((d.1 a).1 s)));
  }

  pub ready-tests : T (reflexive L (ready_preorder L)) × T (transitive L (ready_preorder L))
  ready-tests = (preorder-iff L (ready_preorder L)).1 ready-preorder

  -- a simulation inside it is one inside the termination preorder that relates only states with the same actions
  pub ready-simulation-iff : (S : Rel) → (T (is_simulation L S) × T (within L S (ready_preorder L))) ↔ ReadySimulation L S
  ready-simulation-iff S = (
    λ s. let i = (within-iff L S (ready_preorder L)).0 s.1 in record {
      simulation = s.0;
      inside = (within-iff L S (termination_preorder L)).1 (λ p q l m t. ((both_iff p q).0 (i p q l m t)).0);
      alike = λ p q l m t. ((both_iff p q).0 (i p q l m t)).1;
    },
    λ s. (
      s.simulation,
      (within-iff L S (ready_preorder L)).1 (λ p q l m t.
          (both_iff p q).1 ((within-iff L S (termination_preorder L)).0 s.inside p q l m t, s.alike p q l m t)),
    ),
  )

  ready-kept : (schedule : List ℕ) (p q : ℕ) → p < L.states → q < L.states
      → T ((coarsest L (ready_preorder L) schedule).final.related p q) ↔ ((S : Rel) × ReadySimulation L S × T (S p q))
  ready-kept schedule p q l m =
      let K = (coarsest L (ready_preorder L) schedule).final.related in
      let is = is-coarsest L wf (ready_preorder L) K (coarsest-is L wf (ready_preorder L) ready-preorder schedule) in (
        λ k. (K, (ready-simulation-iff K).0 (is.simulation, is.inside), k),
        λ s.
            let r = (ready-simulation-iff s.0).1 s.1 in
            (within-iff L s.0 K).0 (is.greatest s.0 r.0 r.1) p q l m s.2,
      )

  -- what document 02 says of the ready start
  pub ready : Ready L
  ready = record {
    reflexive = ready-tests.0;
    transitive = ready-tests.1;
    holds = ready-iff;
    kept = ready-kept;
    older = coarsest-monotone L wf (ready_preorder L) (termination_preorder L) ready-preorder (termination-preorder L) (λ p q t. ((both_iff p q).0 t).0);
  }

-- a ready yes is a yes of the older form
pub ready-simulated : (L M : Lts) → WellFormed (disjoint_union L M) → T (simulated ready_preorder L M) → T (simulated termination_preorder L M)
unfolding simulated comparison
ready-simulated L M formed = (ready (disjoint_union L M) formed).older [] [] 0 L.states
