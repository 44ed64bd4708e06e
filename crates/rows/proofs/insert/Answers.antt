-- `rows::insert` meets its contract: by `row-insert`. Assumes nothing.
use borrow.Author.Rules.{rules}
use Rattle.rows.proofs.Rows.{row-insert}
use Rattle.rows.proofs.insert.Goals as goal

pub returns : goal.returns
returns c = row-insert c.args.row.now c.args.q c.requires (λ j. search rules)
