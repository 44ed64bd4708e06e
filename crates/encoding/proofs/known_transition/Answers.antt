-- `encoding::known_transition` meets its contract, by rule 4 at record j.
use Rattle.encoding.proofs.Chains.{transition-known}
use Rattle.encoding.proofs.known_transition.Goals as goal

pub returns : goal.returns
returns c = rw c.transition_record.ensures (transition-known _ _ c.requires.0 _ c.requires.1 c.requires.2)
