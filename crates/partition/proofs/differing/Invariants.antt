use mathlib.Core.Path.{◌≡◌}
use mathlib.Core.Bool.{◌&&◌}
use mathlib.Core.List.{List, ◌++◌}
use Prim.Native.Nat.{ℕ, ◌+◌, ◌*◌}
use lib.ListN.{get_or, drop}
use Rattle.lts.specs.System.{Set}
use Rattle.rows.specs.Rows.{in_row, row_of}
use Rattle.sets.specs.Sets.{set_at}
use Rattle.sets.proofs.Keeping.{Keeping}
use Rattle.partition.proofs.Laws.{differs}
use Rattle.partition.proofs.differing.Given as goal

-- the members whose sets differ
abbrev pub found : List ℕ → List ℕ → List ℕ → Set
found a b members p = in_row members p && differs (set_at a) (set_at b) p

-- whether the sets of state i of word c differ
abbrev pub test : List ℕ → List ℕ → ℕ → Set
test a b c i = differs (set_at a) (set_at b) (64 * c + i)

abbrev pub invariant-loop-c : goal.invariant-loop-c
invariant-loop-c l = l.out ≡ row_of l.c (found l.a l.b l.members) ++ drop l.c l.initial.out

abbrev pub invariant-loop-i : goal.invariant-loop-i
invariant-loop-i l = Keeping (get_or l.members l.c 0) (test l.a l.b l.c) l.i-iterator.left l.word
