-- `strategy_rounds::refute` meets its contract: the two matrices have the start's length. Assumes nothing.
use mathlib.Core.Path.{sym}
use Rattle.rows.proofs.Rows.{prefix-long}
use Rattle.strategy_rounds.proofs.Searches.{words-most}
use Rattle.strategy_rounds.proofs.refute.Goals as goal

pub slice_bounds-current-end : goal.slice_bounds-current-end
slice_bounds-current-end c = words-most c.requires.0 c.requires.1

pub slice_bounds-refute_in-end : goal.slice_bounds-refute_in-end
slice_bounds-refute_in-end c = sym (prefix-long _ 1024 (words-most c.requires.0 c.requires.1))

pub slice_bounds-next-end : goal.slice_bounds-next-end
slice_bounds-next-end c = words-most c.requires.0 c.requires.1

pub slice_bounds-refute_in-end-2 : goal.slice_bounds-refute_in-end-2
slice_bounds-refute_in-end-2 c = sym (prefix-long _ 1024 (words-most c.requires.0 c.requires.1))

pub refute_in-requires : goal.refute_in-requires
refute_in-requires c = let long = sym (prefix-long _ 1024 (words-most c.requires.0 c.requires.1)) in
    record { formed = c.requires; start_len = (long, long) }
