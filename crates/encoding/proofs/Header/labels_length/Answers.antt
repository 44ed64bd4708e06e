-- `encoding::Header::labels_length_lem` meets its contract, by the kind.
use Rattle.encoding.proofs.Sizes.{labels-room, labels-by-kind}
use borrow.Author.Rules.{rules}
use Rattle.encoding.proofs.Header.labels_length.Goals as goal

pub overflow_mul-result-2 : goal.overflow_mul-result-2
overflow_mul-result-2 c =
    let k = labels-room c.requires in
    rw (labels-by-kind c.args.self) (search rules)

pub returns : goal.returns
returns c = labels-by-kind c.args.self
