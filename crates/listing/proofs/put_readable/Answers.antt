-- `put_readable`: the parts of the buffers have the lengths that the encoding asks for.
use mathlib.Core.Path.{sym, ◌∙◌}
use Rattle.rows.proofs.Rows.{prefix-long}
use Rattle.listing.proofs.Calls.{states-most}
use borrow.Author.Rules.{rules}
use Rattle.listing.proofs.put_readable.Goals as goal

pub matrix_words-size-requires : goal.matrix_words-size-requires
matrix_words-size-requires c = states-most c.requires.0

pub slice_bounds-start-end : goal.slice_bounds-start-end
slice_bounds-start-end c = c.matrix_words-size.ensures.1

pub slice_bounds-put_in-end : goal.slice_bounds-put_in-end
slice_bounds-put_in-end c = sym (prefix-long _ 1024 c.matrix_words-size.ensures.1)

pub slice_bounds-grid-end : goal.slice_bounds-grid-end
slice_bounds-grid-end c = c.matrix_words-size.ensures.1

pub slice_bounds-put_in-end-2 : goal.slice_bounds-put_in-end-2
slice_bounds-put_in-end-2 c = sym (prefix-long _ 1024 c.matrix_words-size.ensures.1)

pub slice_bounds-representatives-end : goal.slice_bounds-representatives-end
slice_bounds-representatives-end c = states-most c.requires.0

pub slice_bounds-put_in-end-3 : goal.slice_bounds-put_in-end-3
slice_bounds-put_in-end-3 c = sym (prefix-long _ 256 (states-most c.requires.0))

pub put_in-requires : goal.put_in-requires
put_in-requires c =
    let long = prefix-long _ 1024 c.matrix_words-size.ensures.1 ∙ c.matrix_words-size.ensures.0 in
    let named = prefix-long _ 256 (states-most c.requires.0) in
    (record { readable = c.requires.0; start-long = long; grid-long = long; representatives-long = named }, search rules)

pub returns : goal.returns
returns c = record { value = c.put_in.ensures.value; out_after = c.put_in.ensures.out_after }
