use mathlib.Core.Path.{◌≡◌}
use mathlib.Core.Bool.{true, false}
use mathlib.Core.List.{List}
use Prim.Native.Nat.{ℕ, ◌<◌, ◌-◌}
use Rattle.lts.specs.System.{Set, Rel}
use Rattle.rows.specs.Rows.{in_row}
use Rattle.sets.specs.Sets.{set_at}
use Rattle.sets.proofs.Sweep.{Swept}
use Rattle.splitting.proofs.sweep_split.Given as goal

-- the block of y is in `out`, if y is in L and some member is outside Rem
abbrev pub Added : Rel → Set → Set → List ℕ → ℕ → Type 0
Added P L Rem out y = L y ≡ true → (g h : ℕ) → g < 256 → h < 256 → P y g ≡ true → P y h ≡ true → Rem h ≡ false → in_row out g ≡ true

abbrev pub invariant-loop-x : goal.invariant-loop-x
invariant-loop-x l =
    Swept (Added (set_at l.blocks) (in_row l.initial.left) (in_row l.rem) l.out) (in_row l.left) l.x

abbrev pub decreases-loop-x : goal.decreases-loop-x
decreases-loop-x l = 256 - l.x
