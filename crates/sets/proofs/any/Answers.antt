-- `sets::any` meets its contract. Assumes nothing.
use mir.Syntax.{w64}
use borrow.Author.Rules.{elem_Fits}
use Rattle.sets.proofs.Lists.{any-joined}
use Rattle.sets.proofs.any.Goals as goal

pub returns : goal.returns
returns c = any-joined c.args.a (λ j. (elem_Fits w64 w64 c.args.a _ j c.well_formed.0.1.1 tt).fits)
