use mathlib.Core.Path.{◌≡◌}
use mathlib.Core.List.{List}
use Prim.Native.Nat.{ℕ, ◌+◌, ◌*◌}
use lib.ListN.{get_or}
use Rattle.lts.specs.System.{Set}
use Rattle.rows.specs.Rows.{row_of}
use Rattle.adjacency.proofs.Lookups.{found, sources_of}
use Rattle.adjacency.proofs.Words.{Joining}
use Rattle.adjacency.proofs.sources_into.Given as goal

-- the sources of the transitions into state i of word c
abbrev pub sources_at : List ℕ → List ℕ → ℕ → ℕ → ℕ → Set
sources_at places rows a c i = sources_of places rows a (64 * c + i)

abbrev pub invariant-loop-c : goal.invariant-loop-c
invariant-loop-c l = l.out ≡ row_of 4 (found l.places l.rows l.a l.into (64 * l.c))

abbrev pub invariant-loop-i : goal.invariant-loop-i
invariant-loop-i l = Joining (get_or l.into l.c 0) l.initial.out (sources_at l.places l.rows l.a l.c) l.i-iterator.left l.out
