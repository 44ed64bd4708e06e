-- `transitions::load_row` meets its contract: by the laws of `Loading`. Assumes nothing.
use native.Mathlib.Omega.{arith}
use Rattle.transitions.specs.Loading.{row_image}
use Rattle.transitions.proofs.Gathering.{own-words}
use Rattle.transitions.proofs.Loading.{loading-within, image-below, loading-room, loading-more}
use Rattle.transitions.proofs.load_row.Goals as goal

pub row_sets-used-requires : goal.row_sets-used-requires
row_sets-used-requires c =
    let g = c.requires.linked.1.2 in
    record { recorded = (g.readable.recorded, loading-within g, c.requires.linked.0, image-below g c.requires.linked.1.3); sets_value = c.requires.sets_value }

pub put_row-end-requires : goal.put_row-end-requires
put_row-end-requires c =
    let g = c.requires.linked.1.2 in
    let im = c.requires.linked.1.3 in
    let words = own-words 260 (row_image c.args.maps.now c.args.s.now c.args.h c.args.i) c.row_sets-used.ensures.sets_after in
    record { p_bound = (image-below g im, g.filling.long, words, c.row_sets-used.ensures.covers); p_bound_2 = rw c.offset-from.ensures.0 (loading-room g im c.row_sets-used.ensures.sets_after) }

pub row_mark-requires : goal.row_mark-requires
row_mark-requires c =
    let g = c.requires.linked.1.2 in
    (g.readable.recorded, image-below g c.requires.linked.1.3, (c.args.maps.now, c.requires.linked.0))

pub put_state-requires : goal.put_state-requires
put_state-requires c =
    let g = c.requires.linked.1.2 in
    let im = c.requires.linked.1.3 in
    let room = loading-room g im c.row_sets-used.ensures.sets_after in
    (image-below g im, omega (arith, c.put_row-end.ensures.value, c.offset-from.ensures.0, room))

pub returns : goal.returns
returns c =
    let from = c.offset-from.ensures.0 in
    let made = c.row_sets-used.ensures.sets_after in
    let mark = c.row_mark.ensures c.args.maps.now c.requires.linked.0 in record { loading = λ m L g im. rw c.put_state.ensures (loading-more g im made (rw from at c.put_row-end.ensures.value) (rw from at c.put_row-end.ensures.extends) mark); sets_after = c.put_row-end.ensures.held_after }
