use Prim.Native.Nat.{◌+◌, ◌*◌}
use mathlib.Core.Path.{◌≡◌}
use lib.Seq.{sets}
use Rattle.encoding.specs.Records.{labels_length}
use Rattle.normal_form.specs.Normal.{transitions_bytes}
use Rattle.normal_form.specs.Written.{transitions_from}
use Rattle.normal_form.proofs.write_transitions.Given as goal

abbrev pub invariant-loop-i : goal.invariant-loop-i
invariant-loop-i l = sets l.out (6 + labels_length l.h + 4 * l.h.states + 6 * l.i) (transitions_bytes (l.i + 1) (transitions_from l.table l.i))
    ≡ sets l.initial.out (6 + labels_length l.h + 4 * l.h.states) (transitions_bytes 1 (transitions_from l.table 0))
