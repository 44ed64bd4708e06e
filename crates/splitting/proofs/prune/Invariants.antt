use mathlib.Core.Path.{◌≡◌}
use mathlib.Core.Bool.{not, ◌&&◌}
use mathlib.Core.List.{◌++◌}
use Prim.Native.Nat.{ℕ, ◌+◌, ◌*◌}
use lib.ListN.{get_or, drop}
use Rattle.lts.specs.Bounded.{any_below}
use Rattle.lts.specs.System.{Set, Rel}
use Rattle.rows.specs.Rows.{in_row, row_of}
use Rattle.sets.specs.Sets.{set_at}
use Rattle.sets.proofs.Rewritten.{Rewritten, upto, passed}
use Rattle.sets.proofs.Keeping.{Keeping}
use Rattle.splitting.proofs.prune.Given as goal

-- the rows that have a state of Rem, and those of `rows` that have one
abbrev pub meets : Rel → Set → Set
meets K Rem g = any_below 256 (λ h. K g h && Rem h)

abbrev pub Changed : Rel → Set → Set → Set
Changed K Rem rows g = rows g && meets K Rem g

-- the row of state i of word c has a state of Rem
abbrev pub hit : Rel → Set → ℕ → Set
hit K Rem c i = meets K Rem (64 * c + i)

abbrev pub invariant-loop-c : goal.invariant-loop-c
invariant-loop-c l =
    Rewritten (upto l.rows l.c) (λ t h. set_at l.initial.related t h && not (in_row l.rem h)) (set_at l.initial.related) l.related
    × (l.out ≡ row_of l.c (Changed (set_at l.initial.related) (in_row l.rem) (in_row l.rows)) ++ drop l.c l.initial.out)

abbrev pub invariant-loop-i : goal.invariant-loop-i
invariant-loop-i l =
    let word = get_or l.rows l.c 0 in
    let left = l.i-iterator.left in
    Keeping word (hit (set_at l.initial.related) (in_row l.rem) l.c) left l.word
    × Rewritten (passed l.c word left) (λ t h. set_at l.initial.related t h && not (in_row l.rem h)) (set_at l.initial.related) l.related
