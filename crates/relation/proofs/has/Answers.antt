-- `relation::has` meets its contract: the row from its first word on. Assumes nothing.
use Rattle.std.proofs.Common.{◌∙◌}
use Rattle.relation.proofs.Matrices.{in_row-part}
use Rattle.relation.proofs.has.Goals as goal

pub returns : goal.returns
returns c = c.contains.ensures ∙ in_row-part c.args.w c.args.p c.args.grid.now c.args.q
