use Prim.Native.Nat.{◌+◌}
use mathlib.Core.Path.{◌≡◌}
use lib.Seq.{sets}
use Rattle.encoding.specs.Records.{labels_length}
use Rattle.transitions.specs.Table.{table_lts}
use Rattle.normal_form.specs.Normal.{states_bytes}
use Rattle.normal_form.proofs.write_states.Given as goal

abbrev pub invariant-loop-p : goal.invariant-loop-p
invariant-loop-p l = l.out ≡ sets l.initial.out (6 + labels_length l.h) (states_bytes (table_lts l.table) l.p)
