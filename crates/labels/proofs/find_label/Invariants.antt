use Rattle.labels.proofs.Index.{Sieved}
use Rattle.labels.proofs.find_label.Given as goal

abbrev pub invariant-loop-at : goal.invariant-loop-at
invariant-loop-at l = Sieved l.index l.v-items l.at l.set
