use Rattle.transitions.proofs.Links.{Linking}
use Rattle.transitions.proofs.link.Given as goal

abbrev pub invariant-loop-p : goal.invariant-loop-p
invariant-loop-p l = Linking l.n l.maps l.p l.links
