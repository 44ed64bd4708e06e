-- `sets::join` meets its contract. Assumes nothing.
use borrow.Author.Rules.{elem_Fits}
use mir.Syntax.{w64}
use Rattle.rows.proofs.Rows.{or-bitwise}
use Rattle.sets.proofs.Lists.{zip-four}
use Rattle.sets.proofs.join.Goals as goal

pub returns : goal.returns
returns c = zip-four _ _ or-bitwise c.args.a c.args.b (λ j. (elem_Fits w64 w64 c.args.a _ j c.well_formed.0.1.1 tt).fits) (λ j. (elem_Fits w64 w64 c.args.b _ j c.well_formed.1.0.1.1 tt).fits)
