-- `refine`: the termination preorder is written into the start, from which coarsest goes on.
use Rattle.listing.proofs.refine.Goals as goal

pub returns : goal.returns
returns c =
    rw c.termination_preorder.ensures.grid_value c.coarsest.ensures.representatives_value
