-- The conditions of a simulation on one pair (document 000, Definition 2.1), in the order in which a pair is tested (document 02, L5).
use Rattle.std.specs.Prelude.{ℕ, Bool, not, ◌&&◌, List, T}
use Rattle.lts.specs.System.{Rel, Lts, into, answered, Answered}
use Rattle.transitions.specs.Table.{action_at, target_at, table_lts}

-- 1, the starting condition: the pair is in the start. For the end start this is the definition's own: if p has the end mark, then q has it.
abbrev pub Starting : Rel → ℕ → ℕ → Type 0
Starting start p q = T (start p q)

-- 2, the transfer condition: each move p, a, t has an answer, a move q, a, r with (t, r) in R
abbrev pub Transfer : Lts → Rel → ℕ → ℕ → Type 0
Transfer L R p q = Answered L (λ t r. T (R t r)) p q

-- both, as a test
unfoldable pub both_conditions : Lts → Rel → Rel → Rel
both_conditions L start R p q = start p q && answered L R p q

-- q has an answer into R to transition number i of the table t; it has none
unfoldable pub answered_by : List ℕ → Rel → ℕ → ℕ → Bool
answered_by t R q i = into (table_lts t) (action_at t i) (R (target_at t i)) q

abbrev pub unanswered_by : List ℕ → Rel → ℕ → ℕ → Bool
unanswered_by t R q i = not (answered_by t R q i)
