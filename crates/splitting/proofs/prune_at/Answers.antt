-- `splitting::prune_at` meets its contract. Assumes nothing.
use mathlib.Core.Path.{ap, ◌∙◌}
use mathlib.Core.Bool.{Bool, not, ◌&&◌}
use Rattle.lts.proofs.Below.{any-cong}
use Rattle.rows.specs.Rows.{in_row}
use Rattle.sets.specs.Sets.{set_at}
use Rattle.sets.proofs.Lists.{set-in}
use Rattle.sets.proofs.Rewritten.{written}
use Rattle.splitting.proofs.prune_at.Goals as goal

pub returns : goal.returns
returns c =
    let at-is = c.at-row.ensures in
    let put_is = c.put.ensures in
    let minus_is = c.minus.ensures in
    let any-is = c.any.ensures in
    let meet-is = c.meet.ensures in
    let g = c.args.related.now in
    let row = set-in _ at-is in record {
      related_after = written c.args.g g _ (λ t h. set_at g t h && not (in_row c.args.rem h)) c.requires.0 put_is
          (λ h hh. set-in _ minus_is h hh ∙ ap (λ (b : Bool). b && not (in_row c.args.rem h)) (row h hh));
      value = any-is ∙ any-cong 256 _ _ (λ h hh. set-in _ meet-is h hh ∙ ap (λ (b : Bool). b && in_row c.args.rem h) (row h hh));
    }
