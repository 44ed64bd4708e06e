-- `normal_form::table_transition` meets its contract.
use mathlib.Core.Path.{◌∙◌}
use Rattle.normal_form.specs.Normal.{normal_transition}
use Rattle.normal_form.proofs.table_transition.Goals as goal

pub returns : goal.returns
unfolding normal_transition
returns c = c.new.ensures ∙ rw (c.next_index.ensures, c.target-target.ensures.0, c.action-action.ensures.0)
