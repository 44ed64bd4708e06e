-- `transitions::same_actions` meets its contract. Assumes nothing.
use Rattle.transitions.proofs.same_actions.Goals as goal

pub returns : goal.returns
returns c = c.keep_actions.ensures.1
