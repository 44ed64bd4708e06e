-- `reader::states_fit` meets its contract, by `all_range`. Assumes nothing.
use Rattle.std.proofs.Common.{rules, tests}
use Rattle.lts.proofs.Ranges.{all_range}
use Rattle.encoding.specs.Records.{state_record}
use Rattle.encoding.specs.Encoding.{state_fits, states_fit}
use Rattle.reader.proofs.states_fit.Goals as goal

pub returns : goal.returns
unfolding states_fit
returns c = all_range _ (λ p. state_fits c.args.h (state_record c.args.s.now c.args.h p)) _ c.all.ensures.ran (λ x b q k. search (rules, tests))
