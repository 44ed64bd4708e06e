-- The call write plan: what it replies and leaves in its buffer (document 01, "Plans" and the table of refusals), and what is promised of
-- it. The buffer's elements are numbers, entries or bytes; an entry takes `width` of them.
use Rattle.std.specs.Prelude.{ℕ, ◌*◌, ◌/◌, ◌≤◌, ◌<◌, ◌≡◌, ◌↔◌, not, List, [], ◌∷◌, ◌++◌, T, leb, length, take, drop, Ok, Err}
use Rattle.lts.specs.declared.Entry.{Entry}
use Rattle.lts.specs.declared.Refusal.{Refusal}
use Rattle.lts.specs.declared.Refusal.TheVariants.{StillRelated, Buffer}
use Rattle.lts.specs.Rounds.{refuted_at, refutation_round}
use Rattle.lts.specs.Strategy.{strategy, strategy_length}
use Rattle.lts.specs.Rule.{Rule, ◌otherwise◌, Nothing, First, broken, checked, Reply, refused, given, Answer}
use Rattle.encoding.specs.Records.{header_of}
use Rattle.encoding.specs.Denotation.{lts_of}
use Rattle.inputs.specs.Inputs.{pair_rules}
use Rattle.strategy.specs.Check.{start_of, kept_pairs, check_call}

-- the reply of each answer: the number of entries
unfoldable pub write_reply : Answer ℕ → Reply
write_reply (Ok count) = given (count ∷ [])
write_reply (Err r) = refused r

-- the reply, and the lent buffer afterwards
pub record WriteOutcome (A : Type 0) : Type 0 where
  pub reply : Reply
  pub plan : List A

-- the round in which (p, q) falls, the plan that is written for it, and how many entries that has
abbrev pub round_of : List ℕ → List ℕ → ℕ → ℕ → ℕ
round_of s start p q = refutation_round (lts_of s) (start_of s start) p q

abbrev pub plan_of : List ℕ → List ℕ → ℕ → ℕ → List Entry
plan_of s start p q = strategy (lts_of s) (start_of s start) p q

abbrev pub plan_length : List ℕ → List ℕ → ℕ → ℕ → ℕ
plan_length s start p q = strategy_length (lts_of s) (start_of s start) p q

-- The sheet, the start and the pair (1 to 11); then the pair falls at some round (13: n * n + 1 stands for the round of one that does
-- not), and the buffer has room for the plan's entries (15).
unfoldable pub write_rules : List ℕ → List ℕ → ℕ → ℕ → ℕ → List Rule
write_rules s start p q room =
    let n = (header_of s).states in
    pair_rules s start p q
    ++ leb (round_of s start p q) (n * n) otherwise StillRelated
    ∷ leb (plan_length s start p q) room otherwise Buffer
    ∷ []

-- `carried` gives the elements that carry entries. A refusal leaves the buffer, and what is past the plan's entries stays.
unfoldable pub write_call : {A : Type 0} → (List Entry → List A) → ℕ → List ℕ → List ℕ → ℕ → ℕ → List A → WriteOutcome A
write_call carried width s start p q plan =
    checked (write_rules s start p q (length plan / width))
    (λ r. record { reply = refused r; plan = plan })
    (record {
      reply = given (plan_length s start p q ∷ []);
      plan = carried (plan_of s start p q) ++ drop (width * plan_length s start p q) plan;
    })

-- The buffer begins with so many entries as the reply says: check plan accepts them and answers (p, q), with the round in which the pair
-- falls as depth, and no list that it accepts for (p, q) has less. What is past the entries stays.
pub record Writes {A : Type 0} (entries_in : List A → List Entry) (width : ℕ) (s start : List ℕ) (p q : ℕ) (plan₀ : List A) (reply : Reply) (plan : List A) : Type 0 where
  pub replied : reply ≡ given (plan_length s start p q ∷ [])
  pub accepted : check_call s start (take (plan_length s start p q) (entries_in plan)) ≡ given (p ∷ q ∷ round_of s start p q ∷ [])
  pub falls : T (refuted_at (lts_of s) (start_of s start) (round_of s start p q) p q)
  pub shortest : (entries : List Entry) (depth : ℕ) → check_call s start entries ≡ given (p ∷ q ∷ depth ∷ []) → round_of s start p q ≤ depth
  pub written : take (plan_length s start p q) (entries_in plan) ≡ plan_of s start p q
  pub stays : drop (width * plan_length s start p q) plan ≡ drop (width * plan_length s start p q) plan₀
  pub long : length plan ≡ length plan₀

-- What is promised of the reply and of the buffer that was plan₀ and is plan, where `entries_in` gives the entries that elements carry.
pub record WritePromise {A : Type 0} (entries_in : List A → List Entry) (width : ℕ) (s start : List ℕ) (p q : ℕ) (plan₀ : List A) (reply : Reply) (plan : List A) : Type 0 where
  -- the refusal of the first broken rule, and the buffer as it was
  pub refuses : (r : Refusal) → broken (write_rules s start p q (length plan₀ / width)) ≡ First r → (reply ≡ refused r) × (plan ≡ plan₀)
  -- on a sheet, a start and a pair of states: 13 exactly for a kept pair, whatever the turn list; for a dropped one 15 exactly where its
  -- plan has more entries than there is room for
  pub related : broken (pair_rules s start p q) ≡ Nothing → (schedule : List ℕ) → (reply.refusal ≡ 13) ↔ T (kept_pairs s start schedule p q)
  pub short : broken (pair_rules s start p q) ≡ Nothing → (schedule : List ℕ) → T (not (kept_pairs s start schedule p q))
      → (reply.refusal ≡ 15) ↔ (length plan₀ / width < plan_length s start p q)
  -- otherwise the plan is written
  pub answers : broken (write_rules s start p q (length plan₀ / width)) ≡ Nothing → Writes entries_in width s start p q plan₀ reply plan
