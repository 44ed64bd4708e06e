-- `release::start_on_bytes` meets its contract.
use native.Mathlib.Omega.{arith}
use mathlib.Core.Path.{sym}
use lib.Seq.{length-take-le}
use Rattle.release.proofs.start_on_bytes.Goals as goal

pub slice_bounds-words-end : goal.slice_bounds-words-end
slice_bounds-words-end c = omega (arith, c.load_grid-n.ensures.few)

pub slice_bounds-start_in-end : goal.slice_bounds-start_in-end
slice_bounds-start_in-end c = sym (length-take-le _ _ (omega (arith, c.load_grid-n.ensures.few, c.load_grid-n.ensures.long)))

pub start_in-requires : goal.start_in-requires
start_in-requires c = c.load_grid-n.ensures.loaded

pub returns : goal.returns
returns c = c.start_in.ensures
