-- `partition::is_single` meets its contract. Assumes nothing.
use mathlib.Core.Path.{◌≡◌, sym, ◌∙◌}
use mathlib.Core.List.{List}
use mathlib.Core.Logic.{⊎_elim}
use mathlib.Core.Bool.{true, ◌&&◌, true≢false}
use Prim.Native.Nat.{ℕ, ◌+◌, ◌≤◌, ◌<◌}
use native.Mathlib.Nat.{eq-or-lt_of_le}
use native.Mathlib.Omega.{arith}
use lib.Dec.{eqb, leb}
use borrow.Author.Tests.{eqb-true, leb-true}
use Rattle.rows.specs.Rows.{in_row, Next}
use Rattle.lts.proofs.Below.{lt-or-ge, and-fst, and-snd}
use Rattle.partition.proofs.is_single.Goals as goal

-- no member below g, nor above it
alone : (g : ℕ) (row : List ℕ) (x y : ℕ) → Next (in_row row) 256 0 x → Next (in_row row) 256 (g + 1) y → eqb x g && leb 256 y ≡ true
    → (h : ℕ) → h < 256 → in_row row h ≡ true → h ≡ g
alone g row x y first next both h hh member =
    let low : x ≡ g = eqb-true x g (and-fst (eqb x g) (leb 256 y) both) in
    let high : 256 ≤ y = leb-true 256 y (and-snd (eqb x g) (leb 256 y) both) in
    ⊎_elim (λ (l : h < g). absurd (true≢false (sym member ∙ first.none h (omega arith) (omega (arith, low, l)))))
    (λ (l : g ≤ h). ⊎_elim (λ (e : g ≡ h). sym e) (λ (l : g < h). absurd (true≢false (sym member ∙ next.none h (omega arith) (omega (arith, high, hh))))) (eq-or-lt_of_le l))
    (lt-or-ge h g)

pub returns : goal.returns
returns c = alone c.args.g c.args.block _ _ c.next_state.ensures c.next_state-2.ensures
