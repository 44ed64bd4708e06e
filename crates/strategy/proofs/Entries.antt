-- The entries that a list of numbers carries, by their number. Assumes nothing.
use Prim.Native.Nat.{ℕ, ◌+◌, ◌*◌, ◌/◌, ◌≤◌, ◌<◌}
use mathlib.Core.Path.{◌≡◌, sym, ◌∙◌, ap}
use mathlib.Core.List.{List}
use native.Mathlib.Omega.{arith}
use lib.ListN.{length, get_or}
use Rattle.lts.specs.declared.Entry.{Entry}
use Rattle.lts.specs.Strategy.{entries_of, blank}
use Rattle.lts.proofs.Below.{length-list_below, get_or-list_below}
use Rattle.strategy_check.specs.Entries.{entry_of}
use Rattle.strategy_check.proofs.Entries.{entries_below}

-- four numbers carry an entry
pub length-entries : (xs : List ℕ) → length (entries_of xs) ≡ length xs / 4
length-entries xs = ap length (entries_below xs) ∙ length-list_below (length xs / 4) (entry_of xs)

pub whole-entries : (c : ℕ) (xs : List ℕ) → 4 * c ≤ length xs → c ≤ length (entries_of xs)
whole-entries c xs h = let e = length-entries xs in omega (arith, e, h)

-- the four numbers from 4i are entry i
pub entry_read : (xs : List ℕ) (i : ℕ) → 4 * i + 4 ≤ length xs
    → record { p = get_or xs (4 * i) 0; q = get_or xs (4 * i + 1) 0; a = get_or xs (4 * i + 2) 0; t = get_or xs (4 * i + 3) 0 } ≡ get_or (entries_of xs) i blank
unfolding entry_of
entry_read xs i h =
    let inside : i < length xs / 4 = omega arith in
    sym (ap (λ (l : List Entry). get_or l i blank) (entries_below xs) ∙ get_or-list_below blank (length xs / 4) (entry_of xs) i inside)
