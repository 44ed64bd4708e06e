-- `reader::labels_fit` meets its contract.
use Rattle.reader.proofs.Labels.{plain_fits}
use Rattle.reader.proofs.labels_fit.Goals as goal

pub returns-then-not-h : goal.returns-then-not-h
returns-then-not-h c = plain_fits _ _ c.if-not-h.true
