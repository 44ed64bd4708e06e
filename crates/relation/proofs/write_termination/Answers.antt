-- `relation::write_termination` meets its contract: every pair, then the rows of the terminating states. Assumes nothing.
use mathlib.Core.Path.{◌∙◌}
use Rattle.rows.specs.Rows.{in_row}
use Rattle.relation.proofs.Matrices.{formed-of}
use Rattle.relation.proofs.Rows.{members-implied}
use Rattle.relation.proofs.write_termination.Goals as goal

pub set_rows-requires : goal.set_rows-requires
set_rows-requires c = record { n_bound = (c.requires.n_bound.0, formed-of _ _ c.write_all_pairs.ensures); by_index = c.requires.by_index }

pub returns : goal.returns
returns c = c.set_rows.ensures ∙ members-implied c.args.n (in_row c.args.terminating.now) _ c.write_all_pairs.ensures
