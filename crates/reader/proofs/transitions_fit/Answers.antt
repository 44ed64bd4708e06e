-- `reader::transitions_fit` meets its contract, by `all_range`. Assumes nothing.
use Prim.Native.Nat.{◌+◌}
use Rattle.std.proofs.Common.{rules, tests}
use Rattle.lts.proofs.Ranges.{all_range}
use Rattle.encoding.specs.Records.{transition_record}
use Rattle.encoding.specs.Encoding.{transition_fits, transitions_fit}
use Rattle.reader.proofs.transitions_fit.Goals as goal

pub returns : goal.returns
unfolding transitions_fit
returns c = all_range _ (λ p. transition_fits c.args.h (transition_record c.args.s.now c.args.h (p + 1))) _ c.all.ensures.ran (λ x b q k. search (rules, tests))
