-- What write plan comes to, by its rules.
use Prim.Native.Nat.{ℕ, ◌*◌, ◌/◌, ◌≤◌, ◌<◌}
use mathlib.Core.Path.{◌≡◌}
use mathlib.Core.List.{List, ◌++◌}
use native.Mathlib.Omega.{arith}
use lib.ListN.{length, drop}
use borrow.Author.Tests.{le-leb, lt-leb}
use Rattle.lts.specs.System.{Rel, Lts}
use Rattle.lts.specs.Strategy.{entry_numbers, strategy, strategy_length}
use Rattle.lts.specs.declared.Refusal.{Refusal}
use Rattle.lts.specs.declared.Refusal.TheVariants.{StillRelated, Buffer}
use Rattle.lts.specs.Rule.{Nothing, First, broken}
use Rattle.lts.proofs.Rule.{first_part, refuses, passes, second-checked}
use Rattle.encoding.specs.Records.{header_of}
use Rattle.encoding.specs.Denotation.{lts_of}
use Rattle.transitions.specs.Table.{states_of, table_lts}
use Rattle.relation.specs.Matrix.{relation_of}
use Rattle.inputs.specs.Inputs.{pair_rules}
use Rattle.strategy_rounds.specs.declared.Refutation.{Refutation}
use Rattle.strategy_rounds.specs.Rounds.{FallsAt, RefutationOf}
use Rattle.lts.specs.Rounds.{refutation_round}
use Rattle.std.specs.Prelude.{None}
use Rattle.strategy.specs.Write.{write_reply, write_rules, write_call}
use Rattle.strategy.specs.Steps.{plan_rules, write_on}
use Rattle.std.specs.Prelude.{Ok, Err}

-- ## The outcome on a table, by what the search for the pair's round found
module _ (t : List ℕ) (start : Rel) (p q : ℕ) (d : List ℕ) where
  abbrev L : Lts
  L = table_lts t

  abbrev n : ℕ
  n = states_of t

  pub still-related : RefutationOf L start p q None → write_on L start p q d ≡ record { reply = write_reply (Err StillRelated); plan = d }
  unfolding write_on plan_rules write_reply broken table_lts
  still-related none = refuses _ _ _ {r = StillRelated} (rw (lt-leb (refutation_round L start p q) (n * n) none))

  module _ {r : Refutation} (found : FallsAt L start p q r) where
    pub too_short : length d / 4 < r.count → write_on L start p q d ≡ record { reply = write_reply (Err Buffer); plan = d }
    unfolding write_on plan_rules write_reply broken table_lts
    too_short l = refuses _ _ _ {r = Buffer} (rw (← found.round, ← found.count, le-leb r.round (n * n) found.bound, lt-leb r.count (length d / 4) l))

    pub room : r.count ≤ length d / 4 → 4 * strategy_length L start p q ≤ length d
    room l = omega (arith, found.count, l)

    pub written : {plan : List ℕ} → r.count ≤ length d / 4 → plan ≡ entry_numbers (strategy L start p q) ++ drop (4 * strategy_length L start p q) d
        → write_on L start p q d ≡ record { reply = write_reply (Ok r.count); plan = plan }
    unfolding write_on plan_rules write_reply broken table_lts
    written l w = rw (w, found.count)
        (passes _ _ _ (rw (← found.round, ← found.count, le-leb r.round (n * n) found.bound, le-leb r.count (length d / 4) l)))

-- ## What the call comes to, down the table
module _ (s start : List ℕ) (p q : ℕ) (plan : List ℕ) where
  pub unready : {r : Refusal} → broken (pair_rules s start p q) ≡ First r
      → write_call entry_numbers 4 s start p q plan ≡ record { reply = write_reply (Err r); plan = plan }
  unfolding write_rules write_call write_reply
  unready e = refuses _ _ _ (first_part _ _ e)

  pub on-system : (n : ℕ) → n ≡ (header_of s).states → broken (pair_rules s start p q) ≡ Nothing
      → write_call entry_numbers 4 s start p q plan ≡ write_on (lts_of s) (relation_of n start) p q plan
  unfolding write_rules write_call write_on plan_rules lts_of
  on-system n size e = rw size (second-checked (pair_rules s start p q) _ _ _ e)
