use mathlib.Core.Path.{◌≡◌}
use mathlib.Core.List.{List, ◌++◌}
use Prim.Native.Nat.{ℕ, ◌+◌, ◌*◌}
use lib.ListN.{get_or, drop}
use Rattle.lts.specs.System.{Set}
use Rattle.rows.specs.Rows.{row_of}
use Rattle.sets.proofs.Keeping.{Keeping}
use Rattle.adjacency.proofs.Lookups.{lacks, kept}
use Rattle.adjacency.proofs.lacking.Given as goal

-- state i of word c has no transition into the set
abbrev pub test : List ℕ → List ℕ → ℕ → ℕ → List ℕ → Set
test places rows a c inside i = lacks places rows a inside (64 * c + i)

abbrev pub invariant-loop-c : goal.invariant-loop-c
invariant-loop-c l = l.out ≡ row_of l.c (kept l.places l.rows l.a l.set l.inside) ++ drop l.c l.initial.out

abbrev pub invariant-loop-i : goal.invariant-loop-i
invariant-loop-i l = Keeping (get_or l.set l.c 0) (test l.places l.rows l.a l.c l.inside) l.i-iterator.left l.word
