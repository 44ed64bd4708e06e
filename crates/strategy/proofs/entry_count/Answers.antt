-- `strategy::entry_count` meets its contract, by the cases of the answer.
use Prim.Native.Nat.{ℕ}
use mathlib.Core.Path.{◌≡◌, refl, ◌∙◌}
use Rattle.std.specs.Prelude.{Ok, Err}
use Rattle.std.specs.Result.{result_unwrap_or}
use Rattle.lts.specs.Rule.{Answer}
use Rattle.strategy.specs.Within.{entry_count}
use Rattle.strategy.proofs.entry_count.Goals as goal

counted : (a : Answer ℕ) → result_unwrap_or a 0 ≡ entry_count a
unfolding entry_count
counted (Ok c) = refl
counted (Err r) = refl

pub returns : goal.returns
returns c = c.unwrap_or.ensures ∙ counted _
