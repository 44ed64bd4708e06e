use mathlib.Core.Path.{◌≡◌}
use mathlib.Core.List.{List}
use Prim.Native.Nat.{ℕ, ◌+◌, ◌*◌}
use lib.ListN.{get_or}
use Rattle.adjacency.proofs.Lookups.{entering}
use Rattle.adjacency.proofs.Words.{JoiningWords}
use Rattle.adjacency.proofs.actions_entering.Given as goal

-- the word of state i of word c
abbrev pub word_at : List ℕ → ℕ → ℕ → ℕ
word_at rows c i = get_or rows (64 * c + i) 0

abbrev pub invariant-loop-c : goal.invariant-loop-c
invariant-loop-c l = l.out ≡ entering l.rows l.set (64 * l.c)

abbrev pub invariant-loop-i : goal.invariant-loop-i
invariant-loop-i l = JoiningWords (get_or l.set l.c 0) l.initial.out (word_at l.rows l.c) l.i-iterator.left l.out
