-- `release::pack_refused` meets its contract: a refusal's number is below 256, and a record's number has 16 bits.
use Rattle.lts.proofs.Rule.{number-some}
use borrow.Author.Rules.{rules}
use Rattle.release.proofs.pack_refused.Goals as goal

pub overflow_add-result : goal.overflow_add-result
overflow_add-result c = let n = number-some c.args.r in search rules
