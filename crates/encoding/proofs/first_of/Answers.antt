-- `encoding::first_of` meets its contract, by rule 3 at state p.
use Rattle.encoding.proofs.Chains.{first-known}
use Rattle.encoding.proofs.first_of.Goals as goal

pub returns : goal.returns
returns c = rw c.state_record.ensures (first-known _ _ c.requires.0 _ c.requires.1)
