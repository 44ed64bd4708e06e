-- `adjacency::claim` meets its contract: by `claimed-free` and `claimed-kept`. Assumes nothing.
use Rattle.adjacency.proofs.Places.{claimed-free, claimed-kept}
use Rattle.adjacency.proofs.claim.Goals as goal

pub returns-then-places-x-eq0 : goal.returns-then-places-x-eq0
returns-then-places-x-eq0 c = claimed-free c.args.places.now c.args.x c.args.fresh c.if-places-x-eq0.true

pub returns-else-places-x-eq0 : goal.returns-else-places-x-eq0
returns-else-places-x-eq0 c = claimed-kept c.args.places.now c.args.x c.args.fresh c.if-places-x-eq0.false
