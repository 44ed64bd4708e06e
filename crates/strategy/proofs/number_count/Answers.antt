-- `strategy::number_count` meets its contract, by its test.
use Prim.Native.Nat.{ℕ, ◌*◌, min}
use mathlib.Core.Path.{◌≡◌, refl}
use mathlib.Core.Bool.{Bool, true, false, cond}
use native.Mathlib.Omega.{arith}
use lib.Dec.{leb}
use borrow.Author.Tests.{leb-true, leb-false}
use Rattle.strategy.specs.Within.{number_count}
use Rattle.strategy.proofs.number_count.Goals as goal

counted : (room n : ℕ) → n ≡ min room 65536 → 4 * n ≡ number_count room
unfolding number_count
counted room n e = by (leb room 65536) refl
  where
    by : (b : Bool) → leb room 65536 ≡ b → 4 * n ≡ cond b (4 * room) 262144
    by true t = let h = leb-true room 65536 t in omega (arith, h, e)
    by false t = let h = leb-false room 65536 t in omega (arith, h, e)

pub returns : goal.returns
returns c = counted _ _ c.min.ensures
