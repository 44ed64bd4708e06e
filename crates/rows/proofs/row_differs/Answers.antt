-- `rows::row_differs` meets its contract, by `differs`. Assumes nothing.
use mathlib.Core.Path.{◌∙◌}
use Rattle.rows.proofs.Tests.{differs}
use Rattle.rows.proofs.row_differs.Goals as goal

pub returns : goal.returns
returns c =
    c.ne.ensures ∙ differs c.args.a.now c.args.b.now (λ j. (c.type_inv.a j).fits) (λ j. (c.type_inv.b j).fits) c.args.k c.requires.0 c.requires.1
