use Prim.Native.Nat.{ℕ}
use mathlib.Core.Path.{◌≡◌}
use mathlib.Core.Bool.{false}
use Rattle.lts.specs.System.{Lts}
use Rattle.rows.specs.Rows.{row_of}
use Rattle.transitions.specs.Loading.{Images, Loading}
use Rattle.transitions.proofs.load_rows.Given as goal

abbrev pub invariant-loop-i : goal.invariant-loop-i
invariant-loop-i l = (l.sets ≡ row_of 260 (λ x. false))
    × ((m : ℕ) (L : Lts) → Loading L l.s l.h l.maps m l.low l.initial.table → Images L l.s l.maps l.low l.high → Loading L l.s l.h l.maps m l.i l.table)
