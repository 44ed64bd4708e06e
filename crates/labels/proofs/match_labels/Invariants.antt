use Prim.Native.Nat.{ℕ, ◌+◌, ◌≤◌}
use mathlib.Core.Path.{◌≡◌}
use mathlib.Core.List.{List}
use lib.ListN.{length}
use Rattle.encoding.specs.Labels.{labels_in}
use Rattle.labels.specs.Index.{Indexed}
use Rattle.labels.proofs.Maps.{Matching}
use Rattle.labels.proofs.match_labels.Given as goal

abbrev pub invariant-loop-i : goal.invariant-loop-i
invariant-loop-i l = record {
  counted : l.count ≤ l.m + l.i;
  long : length l.to ≡ 65;
  matching : (A : List (List ℕ)) → Indexed A l.index → l.m ≡ length A → Matching A (labels_in l.s l.h) l.i l.count l.to;
}
