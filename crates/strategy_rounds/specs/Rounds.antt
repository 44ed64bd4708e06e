-- What the calls on rounds give.
use Rattle.std.specs.Prelude.{ℕ, ◌*◌, ◌≤◌, ◌<◌, ◌≡◌, true, not, ◌&&◌, List, Option, MatchOption}
use Rattle.std.specs.Bool.{xor}
use Rattle.lts.specs.Bounded.{any_below}
use Rattle.lts.specs.System.{Set, Rel, Lts, into, answered}
use Rattle.lts.specs.Rounds.{refutation_round}
use Rattle.lts.specs.Strategy.{strategy_length}
use Rattle.transitions.specs.Table.{states_of, count_of, source_at, action_at, target_at, table_lts}
use Rattle.strategy_rounds.specs.declared.Refutation.{Refutation}

-- the round after W
unfoldable pub next_round : Lts → Rel → Rel
next_round L W p q = W p q && answered L W p q

-- a transition of the table into a state of X has an answer in W by each state that its source is related to
abbrev pub Settled : List ℕ → Rel → Set → Type 0
Settled t W X =
    (i q : ℕ) → i < count_of t → q < states_of t → X (target_at t i) ≡ true → W (source_at t i) q ≡ true
    → into (table_lts t) (action_at t i) (W (target_at t i)) q ≡ true

-- the states that B relates to the same states below n as A
unfoldable pub same_rows : ℕ → Rel → Rel → Set
same_rows n A B p = not (any_below n (λ q. xor (A p q) (B p q)))

-- r is the round at which (p, q) falls, with the number of entries of its strategy
pub record FallsAt (L : Lts) (start : Rel) (p q : ℕ) (r : Refutation) : Type 0 where
  pub round : r.round ≡ refutation_round L start p q
  pub bound : r.round ≤ L.states * L.states
  pub count : r.count ≡ strategy_length L start p q

-- the refutation of (p, q), and none exactly where it falls at no round
abbrev pub RefutationOf : Lts → Rel → ℕ → ℕ → Option Refutation → Type 0
RefutationOf L start p q r = MatchOption r (L.states * L.states < refutation_round L start p q) (FallsAt L start p q)
