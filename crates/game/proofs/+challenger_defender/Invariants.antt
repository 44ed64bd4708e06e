use Prim.Native.Nat.{◌+◌, ◌-◌, ◌*◌}
use mathlib.Core.Path.{◌≡◌}
use mathlib.Core.Bool.{true, false}
use Rattle.transitions.specs.Table.{offset_at, action_at, target_at}
use Rattle.transitions.proofs.Entries.{Between}
use Rattle.game.specs.Memo.{wins, Right}
use Rattle.game.proofs.Entries.{lost}
use Rattle.game.proofs.+challenger_defender.Given as goal

abbrev pub decreases-challenger : goal.decreases-challenger
decreases-challenger l = 2 * l.rounds + 1

abbrev pub decreases-defender : goal.decreases-defender
decreases-defender l = 2 * l.rounds

abbrev pub invariant-challenger-loop-i : goal.invariant-challenger-loop-i
invariant-challenger-loop-i l =
    Between (λ j. lost l.table (wins l.table l.start (l.rounds - 1)) l.q j ≡ false) (offset_at l.table l.p) l.i × Right l.table l.start l.memo

abbrev pub invariant-defender-loop-j : goal.invariant-defender-loop-j
invariant-defender-loop-j l =
    Between (λ i. action_at l.table i ≡ l.a → wins l.table l.start (l.rounds - 1) l.t (target_at l.table i) ≡ true) (offset_at l.table l.q) l.j
    × Right l.table l.start l.memo
