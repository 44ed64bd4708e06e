-- `conversion::name_in_decimal` meets its contract: the label and the number's digits are compared.
use mathlib.Core.Path.{◌∙◌}
use Rattle.conversion.proofs.name_in_decimal.Goals as goal

pub returns : goal.returns
returns c = c.same.ensures ∙ rw (c.label-label.ensures, c.decimal.ensures)
