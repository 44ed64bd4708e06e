use mathlib.Core.Path.{◌≡◌}
use mathlib.Core.Bool.{true}
use mathlib.Core.List.{◌++◌}
use Prim.Native.Nat.{◌*◌}
use lib.ListN.{length, drop}
use Rattle.rows.specs.Rows.{row_words}
use Rattle.relation.proofs.Matrices.{rows_to}
use Rattle.relation.proofs.write_all_pairs.Given as goal

abbrev pub invariant-loop-p : goal.invariant-loop-p
invariant-loop-p l = (length l.grid ≡ length l.initial.grid) × (l.grid ≡ rows_to l.n (λ p q. true) l.p ++ drop (l.p * row_words l.n) l.initial.grid)
