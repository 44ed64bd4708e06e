use lib.ListN.{take}
use Rattle.encoding.specs.Labels.{labels_in}
use Rattle.labels.specs.Index.{Indexed}
use Rattle.labels.proofs.index_labels.Given as goal

abbrev pub invariant-loop-i : goal.invariant-loop-i
invariant-loop-i l = Indexed (take l.i (labels_in l.s l.h)) l.index
