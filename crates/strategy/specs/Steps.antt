-- What a part of write plan answers: writing on a system once the inputs are read.
use Rattle.std.specs.Prelude.{ℕ, ◌*◌, ◌/◌, List, [], ◌∷◌, ◌++◌, leb, length, drop}
use Rattle.lts.specs.declared.Refusal.TheVariants.{StillRelated, Buffer}
use Rattle.lts.specs.System.{Rel, Lts}
use Rattle.lts.specs.Rounds.{refutation_round}
use Rattle.lts.specs.Strategy.{entry_numbers, strategy, strategy_length}
use Rattle.lts.specs.Rule.{Rule, ◌otherwise◌, checked, refused, given}
use Rattle.strategy.specs.Write.{WriteOutcome}

-- the last of write plan's rules (13 and 15)
unfoldable pub plan_rules : Lts → Rel → ℕ → ℕ → ℕ → List Rule
plan_rules L start p q room =
    leb (refutation_round L start p q) (L.states * L.states) otherwise StillRelated
    ∷ leb (strategy_length L start p q) room otherwise Buffer
    ∷ []

-- the outcome of writing into numbers where the others are kept
unfoldable pub write_on : Lts → Rel → ℕ → ℕ → List ℕ → WriteOutcome ℕ
write_on L start p q plan =
    checked (plan_rules L start p q (length plan / 4))
    (λ r. record { reply = refused r; plan = plan })
    (record {
      reply = given (strategy_length L start p q ∷ []);
      plan = entry_numbers (strategy L start p q) ++ drop (4 * strategy_length L start p q) plan;
    })
