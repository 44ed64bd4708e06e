-- Writing a strategy for a buffer that does not carry numbers: the numbers are written first, as many as it may need.
use Rattle.std.specs.Prelude.{ℕ, ◌*◌, ◌≤◌, ◌≡◌, cond, List, leb, length, take, Ok, Err}
use Rattle.lts.specs.declared.Refusal.{Refusal}
use Rattle.lts.specs.Strategy.{entries_of}
use Rattle.lts.specs.Rule.{Nothing, First, broken, Answer}
use Rattle.strategy.specs.Write.{plan_of, plan_length, write_rules}

-- how many entries an answer counts: none where it is a refusal
unfoldable pub entry_count : Answer ℕ → ℕ
entry_count (Ok c) = c
entry_count (Err r) = 0

-- how many numbers carry so many entries, and at most those of the longest strategy
unfoldable pub number_count : ℕ → ℕ
number_count room = cond (leb room 65536) (4 * room) 262144

-- by the rules of write plan for a buffer with room for `room` entries: its answer, and the plan is the first entries of `numbers`
pub record WrittenWithin (s start : List ℕ) (p q room : ℕ) (answer : Answer ℕ) (numbers : List ℕ) : Type 0 where
  pub refuses : (r : Refusal) → broken (write_rules s start p q room) ≡ First r → answer ≡ Err r
  pub answers : broken (write_rules s start p q room) ≡ Nothing → answer ≡ Ok (plan_length s start p q)
  pub written : broken (write_rules s start p q room) ≡ Nothing → take (plan_length s start p q) (entries_of numbers) ≡ plan_of s start p q
  pub fits : entry_count answer ≤ room
  pub whole : 4 * entry_count answer ≤ length numbers
