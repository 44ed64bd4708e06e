-- `strategy_bytes::write_bytes` meets its contract: the strategy is written into numbers, and those of its entries are stored.
use Prim.Native.Nat.{ℕ, ◌*◌}
use mathlib.Core.Path.{sym, ap, ◌∙◌}
use mathlib.Core.List.{List}
use native.Mathlib.Nat.{le_of_eq}
use native.Mathlib.Omega.{arith}
use lib.ListN.{length-replicate, length-take}
use lib.Seq.{length-take-le}
use Rattle.strategy.specs.Write.{write_reply}
use Rattle.strategy.proofs.Promise.{write-promised}
use Rattle.strategy_bytes.specs.Bytes.{entry_bytes, entries_of_bytes}
use Rattle.strategy_bytes.proofs.Laws.{stored-within, bytes-carry}
use Rattle.strategy_bytes.proofs.write_bytes.Goals as goal

-- The array's length is shown by a law: it is too long to compute.
pub slice_bounds-write_within-end : goal.slice_bounds-write_within-end
slice_bounds-write_within-end c = sym (length-replicate {A = ℕ} 262144 0)

pub write_within-answer-requires : goal.write_within-answer-requires
write_within-answer-requires c = le_of_eq (sym (length-replicate {A = ℕ} 262144 0))

pub entry_count-count-requires : goal.entry_count-count-requires
entry_count-count-requires c = tt

pub overflow_mul-size : goal.overflow_mul-size
overflow_mul-size c =
    let long = c.write_within-answer.auto.numbers ∙ length-replicate {A = ℕ} 262144 0 in
    omega (arith, c.entry_count-count.ensures, c.write_within-answer.ensures.whole, long)

pub slice_bounds-numbers-end : goal.slice_bounds-numbers-end
slice_bounds-numbers-end c =
    omega (arith, c.entry_count-count.ensures, c.write_within-answer.ensures.whole)

pub slice_bounds-store-end : goal.slice_bounds-store-end
slice_bounds-store-end c =
    sym (length-take-le _ _ (omega (arith, c.entry_count-count.ensures, c.write_within-answer.ensures.whole)))

pub store-requires : goal.store-requires
store-requires c =
    simp length-take (omega (arith, c.entry_count-count.ensures, c.write_within-answer.ensures.fits))

pub shape_of-plan : goal.shape_of-plan
shape_of-plan c = c.store.auto.bytes

pub returns : goal.returns
returns c =
    let w = c.write_within-answer.ensures in
    let size = 4 * c.entry_count-count.result in
    let is = stored-within c.args.s.now c.args.start.now c.args.p c.args.q c.args.plan.now w size (omega (arith, c.entry_count-count.ensures))
    ∙ sym (ap (λ (l : List ℕ). record { reply = write_reply c.write_within-answer.result; plan = l }) c.store.ensures) in
    record { plan_value = is; write_promise = write-promised entries_of_bytes entry_bytes 8 bytes-carry c.args.s.now c.args.start.now c.args.p c.args.q c.args.plan.now _ _ is }
