-- `strategy_judge::conclude` meets its contract: a refusal is passed on, and otherwise the answer is that for the entries.
use mathlib.Core.Path.{◌≡◌}
use Rattle.std.proofs.Common.{rules, Ok, Err}
use Rattle.lts.proofs.Rule.{passed_on}
use Rattle.strategy_judge.proofs.Answers.{concludes-refused, concludes-read}
use Rattle.strategy_judge.proofs.conclude.Goals as goal

pub returns-in_err-_header : goal.returns-in_err-_header
returns-in_err-_header c =
    let e : c.args.reading ≡ Err c.in_err-_header.field-0.0 = search rules in
    rw (passed_on _ c.from_residual.ensures.1) (concludes-refused _ _ e)

pub returns : goal.returns
returns c =
    let e : c.args.reading ≡ Ok c.in_ok-_header._header = search rules in
    concludes-read _ _ e c.answer.ensures
