-- `strategy_entries::copy_in` meets its contract: before turn i the list is `filled i`. Assumes nothing.
use Prim.Native.Nat.{ℕ}
use mathlib.Core.Path.{◌≡◌, ap, ap₂, ◌∙◌}
use mathlib.Core.List.{List}
use native.Mathlib.Nat.{lt_of_lt_of_le}
use native.Mathlib.Omega.{arith}
use lib.ListN.{set}
use Rattle.lts.specs.declared.Entry.{Entry}
use Rattle.lts.specs.Strategy.{entries_of, blank}
use Rattle.strategy.proofs.Entries.{whole-entries}
use Rattle.strategy_entries.proofs.Copies.{filled, fill_step}
use Rattle.strategy_entries.proofs.copy_in.Goals as goal

pub loop-i-preserved : goal.loop-i-preserved
loop-i-preserved c = let i = c.loop-i.i in
    let less = c.loop-i-test.true in
    let es = entries_of c.args.numbers.now in
    let ys = c.args.plan.now in
    ap₂ (λ (l : List Entry) (e : Entry). set l i e) c.loop-i.invariant c.entry_of.ensures
    ∙ fill_step i es ys blank (lt_of_lt_of_le less (whole-entries c.args.c c.args.numbers.now c.requires.1)) (lt_of_lt_of_le less c.requires.0)

pub returns : goal.returns
returns c =
    let end : c.loop-i.i ≡ c.args.c = omega (arith, c.loop-i-test.false) in
    c.loop-i.invariant ∙ ap (λ (k : ℕ). filled k (entries_of c.args.numbers.now) c.args.plan.now) end
