-- `encoding::visible` meets its contract.
use mathlib.Core.Path.{refl}
use Rattle.encoding.specs.Labels.{visible}
use Rattle.encoding.proofs.visible.Goals as goal

pub returns : goal.returns
unfolding visible
returns c = refl
