-- `coarsest_on_bytes` meets its contract: what is left out of the schedule is never used.
use mathlib.Core.Path.{sym, ◌∙◌}
use Rattle.coarsest_bytes.proofs.Laws.{used-same}
use Rattle.coarsest_bytes.proofs.Promise.{meets}
use Rattle.coarsest_bytes.proofs.coarsest_on_bytes.Goals as goal

pub returns-then-k-le513 : goal.returns-then-k-le513
returns-then-k-le513 c =
    let u = c.used-k.ensures in
    let whole = meets (sym (used-same _ _ _ _ _ _ u.0 u.2) ∙ c.coarsest_scheduled.ensures) in
    record { representatives_value = whole.0; coarsest_bytes_promise = whole.1 }

pub returns : goal.returns
returns c =
    let u = c.used-k.ensures in
    let whole = meets (sym (used-same _ _ _ _ _ _ u.0 u.2) ∙ c.coarsest_scheduled-2.ensures) in
    record { representatives_value = whole.0; coarsest_bytes_promise = whole.1 }
