-- `inputs::check_joined` meets its contract: by the tests of the size and of the number of labels.
use Rattle.inputs.proofs.Joined.{too_large, too_many, well-joined}
use mathlib.Core.Path.{ap}
use mathlib.Core.Bool.{not}
use Rattle.inputs.proofs.check_joined.Goals as goal

pub returns-then-not-h-g : goal.returns-then-not-h-g
returns-then-not-h-g c = too_large _ _ _ (ap not c.if-not-h-g.true)

pub returns-then-m-gt64 : goal.returns-then-m-gt64
returns-then-m-gt64 c = too_many _ _ _ (ap not c.if-not-h-g.false) c.if-m-gt64.true

pub returns : goal.returns
returns c = well-joined _ _ _ (ap not c.if-not-h-g.false) c.if-m-gt64.false
