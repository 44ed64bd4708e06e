-- The laws of `specs/System.antt`: what its tests say as types.
use Prim.Native.Nat.{ℕ, zero, suc, ◌≤◌, ◌<◌}
use native.Mathlib.Nat.{not-suc-le-zero}
use mathlib.Core.Logic.{◌↔◌}
use mathlib.Core.Bool.{Bool, ◌&&◌}
use lib.Dec.{T}
use Rattle.lts.specs.Bounded.{◌⇒◌, all_below}
use Rattle.lts.specs.System.{Set, Rel, Lts, WellFormed, all_states, any_state, all_actions, any_action, into, reflexive, transitive, within, answered, is_simulation, Answered, Simulation}
use Rattle.lts.proofs.Bounded.{and-iff, imp-iff, any-iff, all-iff}
use Rattle.lts.proofs.Refine.{Pred}

-- x has a transition by a into X
abbrev pub Into : Lts → ℕ → Set → Pred
Into L a X x = (t : ℕ) × T (L.transition x a t) × T (X t)

pub into-to : (L : Lts) (a : ℕ) (X : Set) (x : ℕ) → T (into L a X x) → Into L a X x
unfolding into any_state
into-to L a X x t = let s = (any-iff L.states (λ t. L.transition x a t && X t)).0 t in let m = (and-iff (L.transition x a s.0) (X s.0)).0 s.2 in (s.0, m.0, m.1)

pub into-from : {L : Lts} → WellFormed L → (a : ℕ) (X : Set) (x : ℕ) → Into L a X x → T (into L a X x)
unfolding into any_state
into-from {L} wf a X x s = (any-iff L.states (λ t. L.transition x a t && X t)).1 (s.0, wf.target x a s.0 s.1, (and-iff (L.transition x a s.0) (X s.0)).1 (s.1, s.2))

-- a preorder: reflexive and transitive on the states
pub record Preorder (L : Lts) (R : Rel) : Type 0 where
  pub loop : (p : ℕ) → p < L.states → T (R p p)
  pub chain : (p q r : ℕ) → p < L.states → q < L.states → r < L.states → T (R p q) → T (R q r) → T (R p r)

pub answered-iff : {L : Lts} → WellFormed L → (R : Rel) (p q : ℕ) → T (answered L R p q) ↔ Answered L (λ t r. T (R t r)) p q
unfolding answered all_actions all_states
answered-iff {L} wf R p q = (λ e a t m. to e a t (wf.action p a t m) m, from)
  where
    test : ℕ → ℕ → Bool
    test a t = L.transition p a t ⇒ into L a (R t) q

    to : T (answered L R p q) → (a t : ℕ) → (1 ≤ a) × (a ≤ L.actions) → T (L.transition p a t) → (r : ℕ) × T (L.transition q a r) × T (R t r)
    to e zero t l m = absurd (not-suc-le-zero l.0)
    to e (suc b) t l m =
        into-to L (suc b) (R t) q
        ((imp-iff (L.transition p (suc b) t) (into L (suc b) (R t) q)).0
        ((all-iff L.states (test (suc b))).0 ((all-iff L.actions (λ a. all_below L.states (test (suc a)))).0 e b l.1) t (wf.target p (suc b) t m)) m)

    from : Answered L (λ t r. T (R t r)) p q → T (answered L R p q)
    from h =
        (all-iff L.actions (λ a. all_below L.states (test (suc a)))).1
        (λ b _.
        (all-iff L.states (test (suc b))).1
        (λ t _. (imp-iff (L.transition p (suc b) t) (into L (suc b) (R t) q)).1 (λ m. into-from wf (suc b) (R t) q (h (suc b) t m))))

-- the tests of a preorder and of a simulation
pub preorder-iff : (L : Lts) (R : Rel) → (T (reflexive L R) × T (transitive L R)) ↔ Preorder L R
unfolding reflexive transitive all_states
preorder-iff L R = (to, from)
  where
    n : ℕ
    n = L.states

    test : ℕ → ℕ → ℕ → Bool
    test p q r = R p q && R q r ⇒ R p r

    to : T (reflexive L R) × T (transitive L R) → Preorder L R
    to e = record {
      loop = λ p l. (all-iff n (λ p. R p p)).0 e.0 p l;
      chain = λ p q r lp lq lr u v.
          (imp-iff (R p q && R q r) (R p r)).0
          ((all-iff n (test p q)).0 ((all-iff n (λ q. all_below n (test p q))).0 ((all-iff n (λ p. all_below n (λ q. all_below n (test p q)))).0 e.1 p lp) q lq) r lr)
          ((and-iff (R p q) (R q r)).1 (u, v));
    }

    from : Preorder L R → T (reflexive L R) × T (transitive L R)
    from pre = (
      (all-iff n (λ p. R p p)).1 pre.loop,
      (all-iff n (λ p. all_below n (λ q. all_below n (test p q)))).1
          (λ p lp.
          (all-iff n (λ q. all_below n (test p q))).1
          (λ q lq.
          (all-iff n (test p q)).1 (λ r lr. (imp-iff (R p q && R q r) (R p r)).1 (λ e. let uv = (and-iff (R p q) (R q r)).0 e in pre.chain p q r lp lq lr uv.0 uv.1)))),
    )

pub within-iff : (L : Lts) (R S : Rel) → T (within L R S) ↔ ((p q : ℕ) → p < L.states → q < L.states → T (R p q) → T (S p q))
unfolding within all_states
within-iff L R S = (
  λ e p q lp lq. (imp-iff (R p q) (S p q)).0 ((all-iff n (λ q. R p q ⇒ S p q)).0 ((all-iff n (λ p. all_below n (λ q. R p q ⇒ S p q))).0 e p lp) q lq),
  λ h.
      (all-iff n (λ p. all_below n (λ q. R p q ⇒ S p q))).1
      (λ p lp. (all-iff n (λ q. R p q ⇒ S p q)).1 (λ q lq. (imp-iff (R p q) (S p q)).1 (h p q lp lq))),
)
  where
    n : ℕ
    n = L.states

-- a grid that holds no pair outside the states is a simulation inside the preorder exactly if the two tests say so
pub simulation-iff : {L : Lts} → WellFormed L → (preorder R : Rel) → ((p q : ℕ) → T (R p q) → (p < L.states) × (q < L.states))
    → (T (is_simulation L R) × T (within L R preorder)) ↔ Simulation L preorder (λ p q. T (R p q))
unfolding is_simulation
simulation-iff {L} wf preorder R grid = (
  λ e. record {
    states = λ {p} {q} r. grid p q r;
    inside = λ {p} {q} r. let l = grid p q r in (within-iff L R preorder).0 e.1 p q l.0 l.1 r;
    answer = λ {p} {q} a t r m.
        let l = grid p q r in
        (answered-iff wf R p q).0 ((within-iff L R (answered L R)).0 e.0 p q l.0 l.1 r) a t m;
  },
  λ s. (
    (within-iff L R (answered L R)).1 (λ p q _ _ r. (answered-iff wf R p q).1 (λ a t m. s.answer a t r m)),
    (within-iff L R preorder).1 (λ p q _ _ r. s.inside r),
  ),
)

pub any-action-to : (L : Lts) (f : Set) → T (any_action L f) → (a : ℕ) × T (f a)
unfolding any_action
any-action-to L f t = let s = (any-iff L.actions (λ a. f (suc a))).0 t in (suc s.0, s.2)

pub any-action-from : (L : Lts) (f : Set) (a : ℕ) → (1 ≤ a) × (a ≤ L.actions) → T (f a) → T (any_action L f)
unfolding any_action
any-action-from L f zero l t = absurd (not-suc-le-zero l.0)
any-action-from L f (suc a) l t = (any-iff L.actions (λ a. f (suc a))).1 (a, l.1, t)

pub any-state-iff : (L : Lts) (f : Set) → T (any_state L f) ↔ ((p : ℕ) × (p < L.states) × T (f p))
unfolding any_state
any-state-iff L f = any-iff L.states f

pub all-state-iff : (L : Lts) (f : Set) → T (all_states L f) ↔ ((p : ℕ) → p < L.states → T (f p))
unfolding all_states
all-state-iff L f = all-iff L.states f
