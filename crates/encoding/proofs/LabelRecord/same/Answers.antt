-- `encoding::LabelRecord::same` meets its contract: the library's equality of the bytes.
use mathlib.Core.Path.{◌∙◌}
use Rattle.encoding.proofs.Labels.{same-pointwise}
use Rattle.encoding.proofs.LabelRecord.same.Goals as goal

pub returns : goal.returns
returns c = c.eq.ensures ∙ same-pointwise c.args.self.bytes c.args.other.bytes
