-- `relation::copy_matrix` meets its contract: word by word. Assumes nothing.
use mathlib.Core.Path.{refl, ap, ◌∙◌}
use mathlib.Core.List.{List}
use Prim.Native.Nat.{ℕ}
use native.Mathlib.Omega.{arith}
use lib.ListN.{set, get_or}
use Rattle.lts.specs.Bounded.{list_below}
use Rattle.lts.proofs.Below.{fill_more, fill-copied}
use borrow.Author.Rules.{rules}
use Rattle.relation.proofs.copy_matrix.Goals as goal

pub loop-j-init : goal.loop-j-init
unfolding list_below
loop-j-init c = search rules

pub loop-j-preserved : goal.loop-j-preserved
loop-j-preserved c =
    ap (λ (l : List ℕ). set l c.loop-j.j (get_or c.args.«from».now c.loop-j.j 0)) c.loop-j.invariant ∙ fill_more c.loop-j.j _ _ (omega arith) refl

pub returns : goal.returns
returns c = fill-copied _ _ _ c.loop-j.j c.loop-j.invariant (omega arith) (omega arith)
