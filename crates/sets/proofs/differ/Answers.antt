-- `sets::differ` meets its contract. Assumes nothing.
use mir.Syntax.{w64}
use mathlib.Core.Path.{◌∙◌}
use borrow.Author.Rules.{elem_Fits}
use Rattle.lts.proofs.Below.{any-cong}
use Rattle.rows.proofs.Rows.{xor-bitwise}
use Rattle.sets.proofs.Lists.{set-in, zip-four}
use Rattle.sets.proofs.differ.Goals as goal

pub returns : goal.returns
returns c =
    c.any.ensures ∙ any-cong 256 _ _ (set-in _ (zip-four _ _ xor-bitwise c.args.a c.args.b
    (λ j. (elem_Fits w64 w64 c.args.a _ j c.well_formed.0.1.1 tt).fits) (λ j. (elem_Fits w64 w64 c.args.b _ j c.well_formed.1.0.1.1 tt).fits)))
