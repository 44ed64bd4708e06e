use Prim.Native.Nat.{◌+◌, ◌-◌, ◌≤◌}
use mathlib.Core.Bool.{◌||◌}
use mathlib.Core.List.{map}
use Rattle.rows.specs.Rows.{in_row}
use Rattle.encoding.specs.Encoding.{walk}
use Rattle.encoding.specs.Checked.{Recorded}
use Rattle.transitions.specs.Loading.{record_to, chain_image}
use Rattle.transitions.proofs.Gathering.{Gathering}
use Rattle.transitions.proofs.Gathering.{Masking}
use Rattle.transitions.proofs.add_chain.Given as goal

abbrev pub invariant-loop : goal.invariant-loop
invariant-loop l = Recorded l.s l.h × (l.j ≤ l.h.transitions)
    × Gathering 260 (λ x. chain_image l.maps l.s l.h l.p x || in_row l.initial.sets x) l.sets (map (record_to l.maps l.s l.h) (walk l.s l.h (l.h.transitions + 1 - l.counter) l.j))
    × Masking (chain_image l.maps l.s l.h l.p) l.used (map (record_to l.maps l.s l.h) (walk l.s l.h (l.h.transitions + 1 - l.counter) l.j))
