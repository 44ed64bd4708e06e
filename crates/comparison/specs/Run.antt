-- What the functions that run the engine on the joined flow say of each other.
use Rattle.std.specs.Prelude.{ℕ, cond, [], ◌∷◌}
use Rattle.lts.specs.System.{Rel, Lts}
use Rattle.lts.specs.Refinement.{Run, coarsest}
use Rattle.lts.specs.Rule.{Reply, given}

-- the reply of a run: whether it keeps (0, q), and its steps
unfoldable pub run_reply : Run → ℕ → Reply
run_reply r q = given (cond (r.final.related 0 q) 1 0 ∷ r.steps ∷ [])

-- that of a system's run from a start of it, with an empty schedule
unfoldable pub pair_reply : (Lts → Rel) → Lts → ℕ → Reply
pair_reply start U q = run_reply (coarsest U (start U) []) q
