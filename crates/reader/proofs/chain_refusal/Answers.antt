-- `reader::chain_refusal` meets its contract: a record is on no chain, or else one is named twice.
use borrow.Author.Rules.{rules}
use Rattle.reader.proofs.Lowest.{lowest-most}
use Rattle.reader.proofs.Refusing.{unreached-refused, twice-refused}
use Rattle.reader.proofs.chain_refusal.Goals as goal

pub returns-then-i-k : goal.returns-then-i-k
returns-then-i-k c = search (unreached-refused, rules)

pub overflow_add-result-2 : goal.overflow_add-result-2
overflow_add-result-2 c = let l = lowest-most _ _ c.lowest_named_twice-j.ensures in search rules

pub overflow_cast-result-2 : goal.overflow_cast-result-2
overflow_cast-result-2 c = let l = lowest-most _ _ c.lowest_named_twice-j.ensures in search rules

pub returns : goal.returns
returns c =
    twice-refused _ _ c.lowest_unreached-i.ensures c.requires.0 c.requires.1 (search rules) c.lowest_named_twice-j.ensures
