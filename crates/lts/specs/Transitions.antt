-- The transitions of a system, one by one, in normal order (document 01, "The sheet"): by state, then action, then target.
use Rattle.std.specs.Prelude.{ℕ, suc, List, map}
use Rattle.lts.specs.Bounded.{passing, concat_below}
use Rattle.lts.specs.System.{Lts}

pub record Transition : Type 0 where
  pub source : ℕ
  pub action : ℕ
  pub target : ℕ

-- the transitions from state p by action a to the states of the list
unfoldable pub transitions_to : ℕ → ℕ → List ℕ → List Transition
transitions_to p a l = map (λ t. record { source = p; action = a; target = t }) l

-- the transitions out of state p by the actions 1 to m, by action, then target
unfoldable pub transitions_by : Lts → ℕ → ℕ → List Transition
transitions_by L p m = concat_below m (λ a. transitions_to p (suc a) (passing L.states (L.transition p (suc a))))

-- the transitions out of state p, those out of the states below n, and all: normal order
unfoldable pub transitions_of : Lts → ℕ → List Transition
transitions_of L p = transitions_by L p L.actions

unfoldable pub transitions_below : Lts → ℕ → List Transition
transitions_below L n = concat_below n (transitions_of L)

unfoldable pub transitions : Lts → List Transition
transitions L = transitions_below L L.states
