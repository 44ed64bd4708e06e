-- Labelled transition systems, preorders and simulations: document 01, "The sheet" and "Grids", as sets and relations.
use Rattle.std.specs.Prelude.{ℕ, suc, ◌≤◌, ◌<◌, Bool, ◌&&◌, T}
use Rattle.lts.specs.Bounded.{◌⇒◌, any_below, all_below}

-- a set of states, and a relation on states (a grid)
abbrev pub Set : Type 0
Set = ℕ → Bool

abbrev pub Rel : Type 0
Rel = ℕ → ℕ → Bool

-- A flow. States (pages) are the numbers below `states`, actions the numbers 1 to `actions`; a terminating state has the end mark;
-- `transition p a t` is a move from p to t by action a.
pub record Lts : Type 0 where
  pub states : ℕ
  pub actions : ℕ
  pub terminating : Set
  pub transition : ℕ → ℕ → ℕ → Bool

-- transitions lead from states to states, by actions from 1 to m
pub record WellFormed (L : Lts) : Type 0 where
  pub source : (p a t : ℕ) → T (L.transition p a t) → p < L.states
  pub action : (p a t : ℕ) → T (L.transition p a t) → (1 ≤ a) × (a ≤ L.actions)
  pub target : (p a t : ℕ) → T (L.transition p a t) → t < L.states

-- every state passes; some state; every action; some action
unfoldable pub all_states : Lts → Set → Bool
all_states L f = all_below L.states f

unfoldable pub any_state : Lts → Set → Bool
any_state L f = any_below L.states f

unfoldable pub all_actions : Lts → Set → Bool
all_actions L f = all_below L.actions (λ a. f (suc a))

unfoldable pub any_action : Lts → Set → Bool
any_action L f = any_below L.actions (λ a. f (suc a))

-- p has a transition by action a into the set X
unfoldable pub into : Lts → ℕ → Set → Set
into L a X p = any_state L (λ t. L.transition p a t && X t)

-- a start: reflexive and transitive
unfoldable pub reflexive : Lts → Rel → Bool
reflexive L R = all_states L (λ p. R p p)

unfoldable pub transitive : Lts → Rel → Bool
transitive L R = all_states L (λ p. all_states L (λ q. all_states L (λ r. R p q && R q r ⇒ R p r)))

-- the end start: it holds (p, q) unless p has the end mark and q has not
unfoldable pub termination_preorder : Lts → Rel
termination_preorder L p q = L.terminating p ⇒ L.terminating q

-- each transition of p has an answer by q, with the targets in R
unfoldable pub answered : Lts → Rel → Rel
answered L R p q = all_actions L (λ a. all_states L (λ t. L.transition p a t ⇒ into L a (R t) q))

-- each pair of R is in S (R is inside S)
unfoldable pub within : Lts → Rel → Rel → Bool
within L R S = all_states L (λ p. all_states L (λ q. R p q ⇒ S p q))

-- R is a simulation
unfoldable pub is_simulation : Lts → Rel → Bool
is_simulation L R = within L R (answered L R)

-- The same for relations that no test need decide: each transition of p has an answer by q; S is a simulation inside the preorder.
abbrev pub Relation : Type 1
Relation = ℕ → ℕ → Type 0

abbrev pub Answered : Lts → Relation → Relation
Answered L R p q = (a t : ℕ) → T (L.transition p a t) → (r : ℕ) × T (L.transition q a r) × R t r

pub record Simulation (L : Lts) (preorder : Rel) (S : Relation) : Type 0 where
  pub states : {p q : ℕ} → S p q → (p < L.states) × (q < L.states)
  pub inside : {p q : ℕ} → S p q → T (preorder p q)
  pub answer : {p q : ℕ} (a t : ℕ) → S p q → T (L.transition p a t) → (r : ℕ) × T (L.transition q a r) × S t r
