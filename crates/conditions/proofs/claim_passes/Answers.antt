-- `conditions::claim_passes` meets its contract: each row passes, by `all_range`. Assumes nothing.
use Prim.Native.Nat.{ℕ}
use mathlib.Core.Path.{ap, ◌∙◌}
use Rattle.std.proofs.Common.{rules, tests}
use Rattle.lts.specs.Bounded.{◌⇒◌, all_below}
use Rattle.lts.specs.System.{all_states, within}
use Rattle.lts.proofs.Ranges.{all_range}
use Rattle.transitions.specs.Table.{states_of, table_lts}
use Rattle.relation.specs.Matrix.{relation_of}
use Rattle.conditions.specs.Conditions.{both_conditions}
use Rattle.conditions.proofs.claim_passes.Goals as goal

pub returns : goal.returns
unfolding within all_states table_lts
returns c =
    let t = c.args.table.now in
    let n = states_of t in
    let R = relation_of n c.args.claim.now in
    let row = λ (p : ℕ). all_below n (λ q. R p q ⇒ both_conditions (table_lts t) (relation_of n c.args.start.now) R p q) in
    all_range _ row _ c.all.ensures.ran (λ x b q k. search (rules, tests)) ∙ ap (λ (m : ℕ). all_below m row) c.states.ensures.0
