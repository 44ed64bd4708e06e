-- `labels::put_joined` meets its contract: the first sheet's labels, then the second's new ones.
use Rattle.encoding.specs.Labels.{labels_in}
use Rattle.labels.proofs.Bytes.{joining}
use Rattle.labels.proofs.put_joined.Goals as goal

pub put_new-requires : goal.put_new-requires
put_new-requires c =
    let bounds = c.requires.readable_as.0.recorded.sized.bounds in
    let first = c.put_labels.ensures in (
      c.requires.readable_as.1,
      (
        labels_in c.args.first.now c.args.h,
        joining c.args.first.now c.args.h c.args.second.now c.args.g c.args.out.now bounds c.requires.readable_as.2 c.requires.cases.0 c.requires.cases.1 first,
      ),
    )

pub returns : goal.returns
returns c =
    let bounds = c.requires.readable_as.0.recorded.sized.bounds in
    let first = c.put_labels.ensures in
    c.put_new.ensures (labels_in c.args.first.now c.args.h)
    (joining c.args.first.now c.args.h c.args.second.now c.args.g c.args.out.now bounds c.requires.readable_as.2 c.requires.cases.0 c.requires.cases.1 first)
