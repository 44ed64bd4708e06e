-- `partition::any_pending` meets its contract: a set has a member exactly if its lowest is below 256. Assumes nothing.
use mathlib.Core.Path.{◌≡◌, sym, ap, ◌∙◌}
use Prim.Native.Nat.{ℕ}
use lib.Dec.{ltb}
use borrow.Author.Tests.{lt-ltb, ltb-true}
use Rattle.lts.specs.Bounded.{any_below, lowest}
use Rattle.lts.specs.System.{Set}
use Rattle.lts.proofs.Below.{bool_iff, any-yes, any_some, lowest-at, lowest-lt}
use Rattle.partition.proofs.any_pending.Goals as goal

lowest-any : (S : Set) → ltb (lowest 256 S) 256 ≡ any_below 256 S
lowest-any S = bool_iff
    (λ e. let l = ltb-true (lowest 256 S) 256 e in sym (any-yes 256 S (lowest 256 S) l (lowest-at 256 S l)))
    (λ e. let s = any_some 256 S e in lt-ltb (lowest 256 S) 256 (lowest-lt 256 S s.0 s.1 s.2))

pub returns : goal.returns
returns c = ap (λ (x : ℕ). ltb x 256) c.lowest_state.ensures ∙ lowest-any _
