-- `transitions::put_actions` meets its contract: the actions are copied behind the states. Assumes nothing.
use native.Mathlib.Omega.{arith}
use Rattle.transitions.proofs.Links.{raises-actions}
use Rattle.transitions.proofs.put_actions.Goals as goal

pub returns : goal.returns
returns c = λ n shift few r. raises-actions _ _ (omega arith) (omega arith) few c.requires.1 c.told-to c.copy_from_slice.ensures.after r
