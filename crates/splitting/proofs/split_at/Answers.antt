-- `splitting::split_at` meets its contract. Assumes nothing.
use mathlib.Core.Path.{sym, ap, ap₂, ◌∙◌}
use mathlib.Core.Bool.{Bool, not, ◌&&◌}
use Rattle.rows.specs.Rows.{in_row}
use Rattle.sets.specs.Sets.{set_at}
use Rattle.sets.proofs.Lists.{set-in}
use Rattle.splitting.specs.Split.{split_related, split_blocks}
use Rattle.sets.proofs.Rewritten.{written, unwritten}
use Rattle.splitting.proofs.Touched.{related-inside, related-outside, blocks-inside, blocks-outside}
use Rattle.splitting.proofs.split_at.Goals as goal

pub returns-then-contains : goal.returns-then-contains
returns-then-contains c =
    let contains-is = c.contains.ensures in
    let held = c.if-contains.true in
    let put_is = c.put.ensures in
    let meet-is = c.meet-inside.ensures in
    let at-is = c.at-block.ensures in
    let K = set_at c.args.related.now in
    let P = set_at c.args.blocks.now in
    let Rem = in_row c.args.rem in
    let own = sym contains-is ∙ held in record {
      related_after = unwritten c.args.g c.args.related.now (split_related Rem K P) c.requires.0 (λ j. (c.type_inv.related j).fits)
          (λ h hh. related-inside Rem K P c.args.g h own);
      blocks_after = written c.args.g c.args.blocks.now _ (split_blocks Rem P) c.requires.1 put_is
          (λ h hh. set-in _ meet-is h hh ∙ ap (λ (b : Bool). b && Rem h) (set-in _ at-is h hh)
          ∙ sym (blocks-inside Rem K P c.args.g h own));
    }

pub returns : goal.returns
returns c =
    let contains-is = c.contains.ensures in
    let failed = c.if-contains.false in
    let at-is = c.at-block.ensures in
    let put2-is = c.put-2.ensures in
    let minus_is = c.minus.ensures in
    let at2-is = c.at.ensures in
    let meet-is = c.meet-inside.ensures in
    let put3-is = c.put-3.ensures in
    let minus2-is = c.minus-2.ensures in
    let K = set_at c.args.related.now in
    let P = set_at c.args.blocks.now in
    let Rem = in_row c.args.rem in
    let own = sym contains-is ∙ failed in
    let block = set-in _ at-is in record {
      related_after = written c.args.g c.args.related.now _ (split_related Rem K P) c.requires.0 put2-is
          (λ h hh. set-in _ minus_is h hh ∙ ap₂ (λ (x y : Bool). x && not y) (set-in _ at2-is h hh)
          (set-in _ meet-is h hh ∙ ap (λ (b : Bool). b && Rem h) (block h hh))
          ∙ sym (related-outside Rem K P c.args.g h own));
      blocks_after = written c.args.g c.args.blocks.now _ (split_blocks Rem P) c.requires.1 put3-is
          (λ h hh. set-in _ minus2-is h hh ∙ ap (λ (b : Bool). b && not (Rem h)) (block h hh)
          ∙ sym (blocks-outside Rem K P c.args.g h own));
    }
