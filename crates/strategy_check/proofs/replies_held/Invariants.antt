use Prim.Native.Nat.{ℕ, ◌+◌, ◌-◌, ◌≤◌, ◌<◌}
use mathlib.Core.Path.{◌≡◌}
use mathlib.Core.Bool.{true, false}
use Rattle.transitions.specs.Table.{offset_at, action_at, target_at}
use Rattle.transitions.proofs.Entries.{Between}
use Rattle.strategy_check.specs.Entries.{holds_pair}
use Rattle.strategy_check.proofs.Replies.{covers}
use Rattle.strategy_check.proofs.replies_held.Given as goal

abbrev pub invariant-entries : goal.invariant-entries
invariant-entries l = (l.end ≡ offset_at l.table (l.q + 1)) × (l.end ≤ 1024) × (offset_at l.table l.q ≤ l.i) × (l.i < l.end) × Between (λ x. covers l.table l.numbers l.e l.a l.t x ≡ true) (offset_at l.table l.q) l.i × (l.i ≡ l.initial.i) × (action_at l.table l.i ≡ l.a) × (l.r ≡ target_at l.table l.i) × (l.j ≤ l.e) × ((x : ℕ) → x < l.j → holds_pair l.numbers l.t l.r x ≡ false)

abbrev pub decreases-entries : goal.decreases-entries
decreases-entries l = l.e - l.j

abbrev pub invariant-replies : goal.invariant-replies
invariant-replies l = (l.end ≡ offset_at l.table (l.q + 1)) × (l.end ≤ 1024) × (offset_at l.table l.q ≤ l.i) × (l.i ≤ l.end) × Between (λ x. covers l.table l.numbers l.e l.a l.t x ≡ true) (offset_at l.table l.q) l.i

abbrev pub decreases-replies : goal.decreases-replies
decreases-replies l = l.end - l.i
