-- `conversion::named_in_decimal` meets its contract, by `all_range`.
use Prim.Native.Nat.{suc}
use Rattle.std.proofs.Common.{rules, tests}
use Rattle.lts.specs.Labels.{same_label}
use Rattle.lts.proofs.Ranges.{all_range}
use Rattle.encoding.specs.Labels.{label_in, decimal_label}
use Rattle.conversion.specs.Conversion.{named_in_decimal}
use Rattle.conversion.proofs.named_in_decimal.Goals as goal

pub returns : goal.returns
unfolding named_in_decimal
returns c = all_range _ _ _ c.all.ensures.ran (λ x b q k. search (rules, tests))
