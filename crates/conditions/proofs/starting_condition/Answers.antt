-- `conditions::starting_condition` meets its contract: the pair is looked up in the start. Assumes nothing.
use Prim.Native.Nat.{ℕ}
use mathlib.Core.Path.{ap, ◌∙◌}
use Rattle.relation.specs.Matrix.{relation_of}
use Rattle.conditions.proofs.Pairs.{same_test}
use borrow.Author.Rules.{rules}
use Rattle.conditions.proofs.starting_condition.Goals as goal

pub relates-requires : goal.relates-requires
relates-requires c = rw c.states.ensures.0 (search rules)

pub returns : goal.returns
returns c =
    same_test (c.relates.ensures ∙ ap (λ (n : ℕ). relation_of n c.args.start.now c.args.p c.args.q) c.states.ensures.0)
