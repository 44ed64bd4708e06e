-- The ready start: document 02, L6.
use Rattle.std.specs.Prelude.{ℕ, ◌<◌, ◌↔◌, true, ◌&&◌, List, T}
use Rattle.std.specs.Bool.{beq}
use Rattle.lts.specs.System.{Rel, Lts, Relation, all_actions, into, reflexive, transitive, termination_preorder, within, is_simulation}
use Rattle.lts.specs.Refinement.{coarsest}

-- p has a transition by action a (one of its buttons); the actions of p's transitions are exactly those of q's
abbrev pub Offers : Lts → ℕ → ℕ → Type 0
Offers L p a = (t : ℕ) × T (L.transition p a t)

abbrev pub SameActions : Lts → Relation
SameActions L p q = (a : ℕ) → Offers L p a ↔ Offers L q a

-- the same as a test
unfoldable pub same_actions : Lts → Rel
same_actions L p q = all_actions L (λ a. beq (into L a (λ t. true) p) (into L a (λ t. true) q))

-- the ready start: it holds (p, q) exactly if the end start does and the actions of p's transitions are exactly those of q's
unfoldable pub ready_preorder : Lts → Rel
ready_preorder L p q = termination_preorder L p q && same_actions L p q

-- S is a simulation inside the end start, and relates only states with the same set of actions
pub record ReadySimulation (L : Lts) (S : Rel) : Type 0 where
  pub simulation : T (is_simulation L S)
  pub inside : T (within L S (termination_preorder L))
  pub alike : (p q : ℕ) → p < L.states → q < L.states → T (S p q) → SameActions L p q

-- What L6 says of the ready start of one Lts. The theorem `ready` (proofs/Ready.antt) says that it holds of every well-formed Lts.
pub record Ready (L : Lts) : Type 0 where
  -- it is a start, and holds what it should
  pub reflexive : T (reflexive L (ready_preorder L))
  pub transitive : T (transitive L (ready_preorder L))
  pub holds : (p q : ℕ) → T (ready_preorder L p q) ↔ ((T (L.terminating p) → T (L.terminating q)) × SameActions L p q)
  -- coarsest keeps a pair under it exactly when some such simulation holds that pair, whatever the turn list
  pub kept : (schedule : List ℕ) (p q : ℕ) → p < L.states → q < L.states
      → T ((coarsest L (ready_preorder L) schedule).final.related p q) ↔ ((S : Rel) × ReadySimulation L S × T (S p q))
  -- what is kept under it is kept under the end start
  pub older : (schedule other : List ℕ) (p q : ℕ)
      → T ((coarsest L (ready_preorder L) schedule).final.related p q) → T ((coarsest L (termination_preorder L) other).final.related p q)
