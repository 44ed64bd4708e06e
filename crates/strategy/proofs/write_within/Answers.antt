-- `strategy::write_within` meets its contract: the strategy goes into the first numbers, and the others follow.
use mathlib.Core.Path.{refl, sym, ◌∙◌}
use native.Mathlib.Omega.{arith}
use lib.Seq.{length-take-le}
use Rattle.strategy.proofs.Within.{count_most, within}
use Rattle.strategy.proofs.write_within.Goals as goal

pub slice_bounds-write_strategy-end : goal.slice_bounds-write_strategy-end
slice_bounds-write_strategy-end c =
    omega (arith, c.number_count-size.ensures, count_most c.args.room, c.requires)

pub slice_bounds-write_strategy-end-2 : goal.slice_bounds-write_strategy-end-2
slice_bounds-write_strategy-end-2 c =
    sym (length-take-le _ _ (omega (arith, c.number_count-size.ensures, count_most c.args.room, c.requires)))

pub returns : goal.returns
returns c =
    let size = c.number_count-size.ensures in
    let w = c.write_strategy.ensures.numbers_value in
    let long = length-take-le c.number_count-size.result c.args.numbers.now (omega (arith, size, count_most c.args.room, c.requires)) in
    within c.args.s.now c.args.start.now c.args.p c.args.q c.args.room _ _ _ _ _ (long ∙ size) w refl
