-- `inputs::read_inputs` meets its contract, by the cases of the reading.
use mathlib.Core.Path.{sym, ◌∙◌}
use Rattle.encoding.proofs.Reader.{readable_of}
use Rattle.inputs.proofs.Laws.{unreadable, readable}
use Rattle.lts.proofs.Rule.{passed_on}
use Rattle.inputs.proofs.read_inputs.Goals as goal

pub with_start-requires : goal.with_start-requires
with_start-requires c = (readable_of (sym c.in_ok-h.ensures.value)).recorded.sized.bounds.states

pub returns-in_err-h : goal.returns-in_err-h
returns-in_err-h c = passed_on _ c.from_residual.ensures.1 ∙ unreadable _ _ (sym c.in_err-h.ensures.value)

pub returns : goal.returns
returns c =
    c.with_start.ensures ∙ readable _ _ (sym c.in_ok-h.ensures.value)
