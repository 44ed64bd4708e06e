-- `reader::named_fit` meets its contract: the first i labels are in the index, each fits, and none stands twice.
use borrow.Author.Rules.{rules}
use mathlib.Core.Path.{sym}
use Rattle.lts.proofs.Below.{length-list_below}
use Rattle.reader.proofs.Labels.{first_labels, named_start, named_more, named-stop, named-done}
use mathlib.Core.Path.{ap}
use mathlib.Core.Bool.{not}
use Rattle.reader.proofs.named_fit.Goals as goal

pub loop-i-init : goal.loop-i-init
loop-i-init c = named_start _ _

pub returns-then-not-fits_anew : goal.returns-then-not-fits_anew
returns-then-not-fits_anew c =
    let named = c.requires.1 in
    let test = c.fits_anew.ensures _ c.loop-i.invariant.indexed in
    named-stop _ _ c.loop-i.i c.label-label.ensures test named (search rules) (ap not c.if-not-fits_anew.true)

pub add_label-requires : goal.add_label-requires
add_label-requires c =
    (search rules, (first_labels _ _ c.loop-i.i, c.loop-i.invariant.indexed, sym (length-list_below c.loop-i.i _)))

pub loop-i-preserved : goal.loop-i-preserved
loop-i-preserved c =
    let had = c.loop-i.invariant.indexed in
    let is = c.label-label.ensures in
    let test = c.fits_anew.ensures _ had in
    let more = c.add_label.ensures _ had (sym (length-list_below c.loop-i.i _)) in
    named_more _ _ c.loop-i.i is test c.loop-i.invariant (ap not c.if-not-fits_anew.false) more

pub returns : goal.returns
returns c = named-done _ _ _ c.requires.1 c.loop-i.invariant (search rules) (search rules)
