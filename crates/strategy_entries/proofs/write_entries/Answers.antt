-- `strategy_entries::write_entries` meets its contract: the strategy is written into numbers, and its entries are copied. Assumes nothing.
use Prim.Native.Nat.{ℕ}
use mathlib.Core.Path.{ap, sym, ◌∙◌}
use mathlib.Core.List.{List, ◌++◌}
use lib.ListN.{take, drop}
use Rattle.lts.specs.declared.Entry.{Entry}
use Rattle.lts.specs.Strategy.{entries_of}
use Rattle.strategy.specs.Write.{write_reply}
use Rattle.strategy.proofs.Promise.{write-promised}
use Rattle.strategy_entries.specs.Entries.{itself}
use Rattle.strategy_entries.proofs.Writings.{entries-carry, entries-within}
use Rattle.strategy_entries.proofs.write_entries.Goals as goal

pub returns : goal.returns
returns c =
    let t = c.write_within-answer.result in
    let l = c.write_within-answer.new.numbers in
    let es = c.args.plan.now in
    let copied = c.copy_in.ensures ∙ ap (λ (k : ℕ). take k (entries_of l) ++ drop k es) c.entry_count-count.ensures in
    let is = entries-within c.args.s.now c.args.start.now c.args.p c.args.q es c.write_within-answer.ensures
    ∙ sym (ap (λ (x : List Entry). record { reply = write_reply t; plan = x }) copied) in
    record { plan_value = is; write_promise = write-promised itself itself 1 entries-carry c.args.s.now c.args.start.now c.args.p c.args.q es _ _ is }
