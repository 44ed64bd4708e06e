-- `splitting::split_rows` meets its contract: where Rem's shared members are whole blocks, no block is split. Assumes nothing.
use mathlib.Core.Path.{refl, sym, ◌∙◌}
use Rattle.rows.specs.Rows.{in_row}
use Rattle.sets.specs.Sets.{set_at}
use Rattle.sets.proofs.Lists.{set-in, any-off, same-sets}
use Rattle.splitting.proofs.Joining.{meets-none, whole-unsplit}
use Rattle.splitting.proofs.split_rows.Goals as goal

pub returns-then-not-any : goal.returns-then-not-any
returns-then-not-any c =
    let meet-is = c.meet-cut.ensures in
    let any-is = c.any.ensures in
    let off = any-off 256 _ (sym any-is ∙ c.if-not-any.true) in
    let P = set_at c.args.blocks.now in
    whole-unsplit P (in_row c.args.shared) c.requires.1 (in_row c.args.rem) _ _ _ (set-in _ meet-is) (meets-none P _ _ off off) (λ g hg. refl)

pub returns : goal.returns
returns c =
    let meet-is = c.meet-cut.ensures in
    let joined_is = c.joined-whole.ensures in
    let differ-is = c.differ.ensures in
    let failed = c.if-differ.false in
    whole-unsplit (set_at c.args.blocks.now) (in_row c.args.shared) c.requires.1 (in_row c.args.rem) _ _ _ (set-in _ meet-is) joined_is
    (same-sets _ _ (sym differ-is ∙ failed))
