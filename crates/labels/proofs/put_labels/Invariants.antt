use mathlib.Core.Path.{◌≡◌}
use lib.ListN.{take}
use lib.Seq.{sets}
use Rattle.encoding.specs.Labels.{labels_in, labels_bytes}
use Rattle.labels.proofs.put_labels.Given as goal

abbrev pub invariant-loop-i : goal.invariant-loop-i
invariant-loop-i l = l.out ≡ sets l.initial.out l.at (labels_bytes (take l.i (labels_in l.s l.h)))
