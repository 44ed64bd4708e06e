-- `encoding::Header::transition_at` meets its contract: the label records take at most 1,024 bytes.
use Rattle.encoding.proofs.Sizes.{labels-room}
use borrow.Author.Rules.{rules}
use Rattle.encoding.proofs.Header.transition_at.Goals as goal

pub overflow_add-result : goal.overflow_add-result
overflow_add-result c = let k = labels-room c.requires.0 in search rules
