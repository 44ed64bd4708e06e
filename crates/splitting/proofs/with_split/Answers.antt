-- `splitting::with_split` meets its contract. Assumes nothing.
use mathlib.Core.Path.{sym, ap, ◌∙◌}
use mathlib.Core.Bool.{Bool, cond, ◌||◌}
use Rattle.lts.proofs.Below.{any-cong}
use Rattle.rows.specs.Rows.{in_row, row_of}
use Rattle.sets.proofs.Lists.{set-in}
use Rattle.splitting.proofs.with_split.Goals as goal

pub returns-then-any : goal.returns-then-any
returns-then-any c =
    let join_is = c.join.ensures in
    let any-is = c.any.ensures in
    let minus_is = c.minus.ensures in
    let held = c.if-any.true in
    join_is ∙ sym (ap (λ (b : Bool). cond b (row_of 4 (λ q. in_row c.args.out q || in_row c.args.block q)) c.args.out)
    (sym (any-is ∙ any-cong 256 _ _ (set-in _ minus_is)) ∙ held))

pub returns : goal.returns
returns c =
    let any-is = c.any.ensures in
    let minus_is = c.minus.ensures in
    let failed = c.if-any.false in
    sym (ap (λ (b : Bool). cond b (row_of 4 (λ q. in_row c.args.out q || in_row c.args.block q)) c.args.out)
    (sym (any-is ∙ any-cong 256 _ _ (set-in _ minus_is)) ∙ failed))
