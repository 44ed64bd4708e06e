-- `sets::at` meets its contract. Assumes nothing.
use Rattle.sets.proofs.Lists.{at-four}
use Rattle.sets.proofs.at.Goals as goal

pub returns : goal.returns
returns c = at-four c.args.sets.now c.args.p (λ j. (c.type_inv.sets j).fits)
