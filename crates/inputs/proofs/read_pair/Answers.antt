-- `inputs::read_pair` meets its contract: by what reading the inputs answers, and by the test of the pair.
use mathlib.Core.Path.{refl, sym, ◌∙◌}
use Rattle.inputs.proofs.Laws.{pair-unread, pair-outside, pair_read}
use mathlib.Core.Path.{ap}
use mathlib.Core.Bool.{not}
use Rattle.lts.proofs.Rule.{passed_on}
use Rattle.inputs.proofs.read_pair.Goals as goal

pub returns-then-not-p-n : goal.returns-then-not-p-n
returns-then-not-p-n c =
    pair-outside _ _ _ _ (sym c.in_ok-h.ensures) refl (ap not c.if-not-p-n.true)

pub returns-in_err-h : goal.returns-in_err-h
returns-in_err-h c = passed_on _ c.from_residual.ensures.1 ∙ pair-unread _ _ _ _ (sym c.in_err-h.ensures)

pub returns : goal.returns
returns c =
    pair_read _ _ _ _ (sym c.in_ok-h.ensures) refl (ap not c.if-not-p-n.false)
