-- `strategy_write::write_table` meets its contract: the two matrices have the start's length. Assumes nothing.
use mathlib.Core.Path.{sym}
use Rattle.rows.proofs.Rows.{prefix-long}
use Rattle.strategy_rounds.proofs.Searches.{words-most}
use Rattle.strategy_write.proofs.write_table.Goals as goal

pub slice_bounds-current-end : goal.slice_bounds-current-end
slice_bounds-current-end c = words-most c.requires.0 c.requires.1

pub slice_bounds-write_from-end : goal.slice_bounds-write_from-end
slice_bounds-write_from-end c = sym (prefix-long _ 1024 (words-most c.requires.0 c.requires.1))

pub slice_bounds-next-end : goal.slice_bounds-next-end
slice_bounds-next-end c = words-most c.requires.0 c.requires.1

pub slice_bounds-write_from-end-2 : goal.slice_bounds-write_from-end-2
slice_bounds-write_from-end-2 c = sym (prefix-long _ 1024 (words-most c.requires.0 c.requires.1))

pub write_from-requires : goal.write_from-requires
write_from-requires c = let long = prefix-long _ 1024 (words-most c.requires.0 c.requires.1) in
    record { fact = c.requires; current_len = (long, sym long) }
