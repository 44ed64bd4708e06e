-- `inputs::with_start` meets its contract, by the cases of the check.
use mathlib.Core.Path.{sym, ◌∙◌}
use Rattle.inputs.proofs.Laws.{unchecked, passed}
use Rattle.lts.proofs.Rule.{passed_on}
use Rattle.inputs.proofs.with_start.Goals as goal

pub returns-in_err-check_preorder : goal.returns-in_err-check_preorder
returns-in_err-check_preorder c = passed_on _ c.from_residual.ensures.1 ∙ unchecked _ _ (sym c.in_err-check_preorder.ensures)

pub returns : goal.returns
returns c = passed _ _ (sym c.in_ok-check_preorder.ensures)
