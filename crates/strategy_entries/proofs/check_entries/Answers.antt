-- `strategy_entries::check_entries` meets its contract: the entries are those of the slice.
use mathlib.Core.Path.{refl}
use Rattle.strategy.proofs.Promise.{check-meets}
use borrow.Author.Rules.{rules}
use Rattle.strategy_entries.proofs.check_entries.Goals as goal

pub returns : goal.returns
returns c =
    let whole = check-meets c.args.s.now c.args.start.now c.args.plan.now (c.check_each.ensures c.args.plan.now refl (λ i e less post. search rules)) in
    record { plan_value = whole.0; check_promise = whole.1 }
