use Prim.Native.Nat.{ℕ}
use mathlib.Core.List.{List}
use lib.ListN.{take}
use Rattle.lts.specs.Labels.{joined_labels}
use Rattle.encoding.specs.Labels.{labels_in, labels_bytes}
use Rattle.labels.specs.Maps.{Begins, Joining}
use Rattle.labels.proofs.put_new.Given as goal

abbrev pub invariant-loop-i : goal.invariant-loop-i
invariant-loop-i l =
    (A : List (List ℕ)) → Joining A (labels_in l.s l.h) l.m l.to l.initial.out → Begins l.out (labels_bytes (joined_labels A (take l.i (labels_in l.s l.h))))
