-- `sets::one_at` meets its contract: from one bit of the word to the next. Assumes nothing.
use mathlib.Core.Path.{◌≡◌, ap, ◌∙◌}
use mathlib.Core.Bool.{true}
use mathlib.Core.List.{[], ◌∷◌}
use Prim.Native.Nat.{ℕ, ◌+◌, ◌-◌, ◌^◌, ◌<◌}
use native.Mathlib.Omega.{arith}
use lib.Bits.{bit_and}
use lib.Count.{count_trailing_zeros}
use lib.ListN.{length, length-append}
use Rattle.lts.specs.Bounded.{passing}
use Rattle.rows.specs.Rows.{bit, Next}
use Rattle.lts.proofs.Count.{passing-shorter}
use Rattle.lts.proofs.Lists.{passing-none, passing-more}
use Rattle.rows.proofs.Rows.{next_place}
use Rattle.sets.proofs.Walks.{Stepped, rest-begin, rest-next, rest_end}
use borrow.Author.Rules.{rules}
use Rattle.sets.proofs.one_at.Invariants.{Dropped}
use Rattle.sets.proofs.one_at.Goals as goal

drop-begin : (word : ℕ) → word < 2 ^ 64 → Dropped word 0 word
drop-begin word small = record { from = 0; rest = rest-begin word small; count = passing-none (bit word) }

module _ (word i left : ℕ) (s : Dropped word i left) (more : i < length (passing 64 (bit word))) where
  -- the word has more ones than i: some are left
  some : left ≡ 0 → ⊥
  some e = omega (arith, more, s.count, ap length (passing-shorter s.from 64 (bit word) s.rest.place (rest_end word s.from left s.rest e)))

  abbrev t : ℕ
  t = count_trailing_zeros 64 left

  step : Stepped word s.from left t
  step = rest-next word s.from left s.rest some

  next : Next (bit word) 64 s.from t
  next = record { above = step.above; below = omega (arith, step.below); none = step.none; member = λ l. step.member }

  -- the lowest of them is number i
  lowest-left : (t < 64) × (bit word t ≡ true) × (length (passing t (bit word)) ≡ i)
  lowest-left = next_place (bit word) 64 s.from t i next s.count more

  drop-next : Dropped word (i + 1) (bit_and left (left - 1))
  drop-next = record {
    from = t + 1;
    rest = step.rest;
    count = ap length (passing-more (bit word) t step.member) ∙ length-append (passing t (bit word)) (t ∷ []) ∙ ap (λ (m : ℕ). m + 1) lowest-left.2;
  }

pub loop-init : goal.loop-init
loop-init c = drop-begin _ (search rules)

pub overflow_sub-left : goal.overflow_sub-left
overflow_sub-left c = let none = some _ _ _ c.loop.invariant (omega arith) in omega (arith, none)

pub loop-preserved : goal.loop-preserved
loop-preserved c = drop-next _ _ _ c.loop.invariant (omega arith)

pub returns : goal.returns
returns c =
    let end : c.loop.counter ≡ c.args.j = omega arith in
    let at = lowest-left _ _ _ c.loop.invariant (omega (arith, end)) in
    (at.0, at.1, at.2 ∙ end)
