-- `used` meets its contract: what is left out is left out only for few states.
use mathlib.Core.Path.{refl}
use mathlib.Core.Logic.{inr}
use Rattle.std.proofs.Common.{rules}
use Rattle.coarsest_bytes.proofs.used.Goals as goal

pub returns-then-read-le16 : goal.returns-then-read-le16
returns-then-read-le16 c = (search rules, search rules, λ _. inr (refl, rw (← c.read.ensures) c.if-read-le16.true))
