-- How long a strategy is: it holds a pair once. Assumes nothing.
use Prim.Native.Nat.{ℕ, suc, ◌*◌, ◌≤◌, ◌<◌, zero-le, suc-le-suc}
use native.Mathlib.Omega.{arith}
use Rattle.lts.specs.Bounded.{sum_below, count_below, lowest}
use Rattle.lts.specs.System.{Rel, Lts}
use Rattle.lts.specs.Rounds.{refuted_at, refutation_round}
use Rattle.lts.specs.Strategy.{refuted_count, strategy_length}
use Rattle.lts.proofs.Below.{true-T, lowest-at}
use Rattle.lts.proofs.Count.{sum_lt, count-least}
use Rattle.strategy_rounds.proofs.Refutations.{refuted-before}

pub length_most : (L : Lts) (start : Rel) (p q : ℕ) → p < L.states → q < L.states → refutation_round L start p q ≤ L.states * L.states
    → strategy_length L start p q ≤ L.states * L.states
unfolding strategy_length refutation_round refuted_count sum_below
length_most L start p q hp hq h =
    let n = L.states in
    let j = lowest (suc (n * n)) (λ j. refuted_at L start j p q) in
    let falls = lowest-at (suc (n * n)) (λ j. refuted_at L start j p q) (suc-le-suc h) in
    let one = sum_lt n (λ _. 0) (λ p. count_below n (refuted_at L start j p)) (λ _ _. zero-le) p hp (count-least n (refuted_at L start j p) q hq (true-T _ falls)) in
    let total = refuted-before L start j in
    omega (arith, one, total)
