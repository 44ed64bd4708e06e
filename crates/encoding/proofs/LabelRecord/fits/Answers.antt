-- `encoding::LabelRecord::fits` meets its contract, by `all_range`.
use Prim.Native.Nat.{◌+◌}
use mathlib.Core.Path.{sym, ap, ap₂, ◌∙◌}
use mathlib.Core.Bool.{Bool, ◌&&◌}
use lib.ListN.{get_or}
use Rattle.std.proofs.Common.{rules, tests}
use Rattle.lts.specs.Bounded.{all_below}
use Rattle.lts.proofs.Ranges.{all_range}
use Rattle.encoding.specs.Labels.{follows, visible, label_fits}
use Rattle.encoding.proofs.LabelRecord.fits.Goals as goal

pub returns-then-visible : goal.returns-then-visible
unfolding label_fits
returns-then-visible c =
    let x = c.args.self.bytes in
    let all = all_range 15 (λ d. follows (get_or x d 0) (get_or x (d + 1) 0)) _ c.all.ensures.ran (λ d b q k. search (rules, tests)) in
    rw (← c.visible.ensures, c.if-visible.true) all

pub returns-else-visible : goal.returns-else-visible
unfolding label_fits
returns-else-visible c = rw (← c.visible.ensures, c.if-visible.false)
