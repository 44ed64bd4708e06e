-- `release::flow_end_start` meets its contract.
use Rattle.starts.specs.Start.{written_start}
use Rattle.simulation.proofs.Starts.{end-start}
use Rattle.release.proofs.Replies.{checked-kept}
use Rattle.release.proofs.Exports.{start-exported}
use Rattle.release.proofs.flow_end_start.Goals as goal

pub returns : goal.returns
unfolding written_start
returns c = let whole = start-exported end-start c.start_on_bytes.ensures c.pack_checked.ensures (checked-kept _) in record { grid_value = whole.0; value = whole.1.0; start_bytes_promise = whole.1.1 }
