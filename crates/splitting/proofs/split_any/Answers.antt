-- `splitting::split_any` meets its contract: with no row, the split leaves all as it is. Assumes nothing.
use mathlib.Core.Path.{sym, ◌∙◌}
use Rattle.rows.specs.Rows.{in_row}
use Rattle.sets.specs.Sets.{set_at}
use Rattle.sets.proofs.Lists.{any-off, sets-cong, sets-ext}
use Rattle.splitting.proofs.Touched.{related-unsplit, blocks-unsplit}
use Rattle.splitting.proofs.split_any.Goals as goal

pub returns-else-any : goal.returns-else-any
returns-else-any c =
    let any-is = c.any.ensures in
    let off = any-off 256 _ (sym any-is ∙ c.if-any.false) in
    let Rem = in_row c.args.rem in
    let K = set_at c.args.related.now in
    let P = set_at c.args.blocks.now in record {
      related_after = sets-ext 256 _ c.requires.0 (λ j. (c.type_inv.related j).fits)
          ∙ sets-cong 256 _ _ (λ g h hg hh. related-unsplit Rem K P g h (c.requires.2 g h hg hh (off g hg)));
      blocks_after = sets-ext 256 _ c.requires.1 (λ j. (c.type_inv.blocks j).fits)
          ∙ sets-cong 256 _ _ (λ g h hg hh. blocks-unsplit Rem P g h (c.requires.2 g h hg hh (off g hg)));
    }
