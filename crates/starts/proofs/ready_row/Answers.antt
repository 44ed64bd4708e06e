-- `starts::ready_row` meets its contract: by whether p terminates.
use mathlib.Core.Path.{sym, ap, ◌∙◌}
use native.Mathlib.Omega.{arith}
use lib.ListN.{length}
use Rattle.lts.proofs.Below.{length-list_below}
use Rattle.starts.proofs.Rows.{row-whole-kept, row-ended}
use borrow.Author.Rules.{rules}
use Rattle.starts.proofs.ready_row.Goals as goal

pub returns-then-not-contains : goal.returns-then-not-contains
returns-then-not-contains c =
    row-whole-kept c.args.terminating.now c.args.words.now c.args.n c.args.p c.alike-row.ensures (sym c.contains.ensures ∙ c.if-not-contains.true)

pub slice_bounds-row_intersect-end : goal.slice_bounds-row_intersect-end
slice_bounds-row_intersect-end c = sym (ap length c.alike-row.ensures ∙ length-list_below 4 _)

pub row_intersect-requires : goal.row_intersect-requires
row_intersect-requires c = (omega (arith, ap length c.alike-row.ensures ∙ length-list_below 4 _), search rules)

pub returns : goal.returns
returns c =
    row-ended c.args.terminating.now c.args.words.now c.args.n c.args.p c.alike-row.ensures c.row_intersect.ensures
    (sym c.contains.ensures ∙ c.if-not-contains.false)
