use Rattle.labels.proofs.Index.{Marked}
use Rattle.labels.proofs.add_label.Given as goal

abbrev pub invariant-loop-d : goal.invariant-loop-d
invariant-loop-d l = Marked l.v-items l.i l.d l.initial.index l.index
