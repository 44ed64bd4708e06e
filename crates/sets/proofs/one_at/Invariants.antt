use mathlib.Core.Path.{◌≡◌}
use Prim.Native.Nat.{ℕ}
use lib.ListN.{length}
use Rattle.lts.specs.Bounded.{passing}
use Rattle.rows.specs.Rows.{bit}
use Rattle.sets.proofs.Walks.{Rest}
use Rattle.sets.proofs.one_at.Given as goal

-- the lowest i ones of the word are dropped, and the others are left
pub record Dropped (word i left : ℕ) : Type 0 where
  pub from : ℕ
  pub rest : Rest word from left
  pub count : length (passing from (bit word)) ≡ i

abbrev pub invariant-loop : goal.invariant-loop
invariant-loop l = Dropped l.word l.counter l.left
