-- `coarsest_loaded` meets its contract: what is read is what the bytes carry.
use mathlib.Core.Path.{sym}
use native.Mathlib.Omega.{arith}
use lib.Seq.{length-take-le}
use Rattle.coarsest_bytes.proofs.coarsest_loaded.Goals as goal

pub load_grid-v-requires : goal.load_grid-v-requires
load_grid-v-requires c = c.requires.0

pub load_grid-w-requires : goal.load_grid-w-requires
load_grid-w-requires c = c.requires.1

pub load_states-n-requires : goal.load_states-n-requires
load_states-n-requires c = c.requires.2

pub slice_bounds-coarsest_in-end-2 : goal.slice_bounds-coarsest_in-end-2
slice_bounds-coarsest_in-end-2 c =
    sym (length-take-le _ _ (omega (arith, c.load_grid-v.ensures.few, c.load_grid-v.ensures.long)))

pub slice_bounds-coarsest_in-end-4 : goal.slice_bounds-coarsest_in-end-4
slice_bounds-coarsest_in-end-4 c =
    sym (length-take-le _ _ (omega (arith, c.load_grid-w.ensures.few, c.load_grid-w.ensures.long)))

pub slice_bounds-coarsest_in-end-6 : goal.slice_bounds-coarsest_in-end-6
slice_bounds-coarsest_in-end-6 c =
    sym (length-take-le _ _ (omega (arith, c.load_states-n.ensures.few, c.load_states-n.ensures.long)))

pub coarsest_in-requires : goal.coarsest_in-requires
coarsest_in-requires c =
    (c.load_grid-w.ensures.loaded, c.load_states-n.ensures.loaded)

pub returns : goal.returns
returns c =
    rw c.load_grid-v.ensures.loaded at c.coarsest_in.ensures
