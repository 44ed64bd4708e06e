-- `rows::row_within` meets its contract, by `within-all`. Assumes nothing.
use mathlib.Core.Path.{◌≡◌}
use Rattle.std.proofs.Common.{arith, rules, tests}
use Rattle.std.proofs.lemmas.Iterator.{cases_from_all, YieldsList-from_range}
use Rattle.rows.proofs.Tests.{within-all, outside}
use Rattle.rows.proofs.row_within.Goals as goal

pub returns : goal.returns
returns c =
    let a = c.args.a.now in
    let b = c.args.b.now in
    within-all a b (λ j. (c.type_inv.a j).fits) (λ j. (c.type_inv.b j).fits) c.args.k _
    (cases_from_all _ _ _ (λ j. outside a b j ≡ 0) (λ j. outside a b j ≡ 0 → ⊥) c.all.ensures.ran (YieldsList-from_range 0 c.args.k c.args.k (cc) (omega arith))
    (λ x q k. search (rules, tests)) (λ x q k. search (rules, tests)))
