-- `transitions::raised` meets its contract: the states, then the actions. Assumes nothing.
use mathlib.Core.List.{[]}
use native.Mathlib.Omega.{arith}
use borrow.Author.Rules.{rules}
use Rattle.transitions.proofs.raised.Goals as goal

pub put_actions-requires : goal.put_actions-requires
put_actions-requires c = let r = c.raise_states.ensures [] in (r.long, search rules)

pub returns : goal.returns
returns c =
    c.put_actions.ensures _ _ (omega (arith, c.requires.0)) (c.raise_states.ensures _)
