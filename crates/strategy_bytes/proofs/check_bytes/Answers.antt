-- `strategy_bytes::check_bytes` meets its contract: the entries are those that the bytes carry.
use borrow.Author.Rules.{rules}
use Rattle.strategy.proofs.Promise.{check-meets}
use Rattle.strategy_bytes.specs.Bytes.{entries_of_bytes}
use Rattle.strategy_bytes.proofs.Laws.{length-carried}
use Rattle.strategy_bytes.proofs.check_bytes.Goals as goal

pub returns : goal.returns
returns c =
    let es = entries_of_bytes c.args.plan.now in
    let whole = check-meets c.args.s.now c.args.start.now es (c.check_each.ensures es (length-carried c.args.plan.now) (λ i e less post. search rules)) in
    record { plan_value = whole.0; check_promise = whole.1 }
