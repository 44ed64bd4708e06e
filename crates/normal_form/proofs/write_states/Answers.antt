-- `normal_form::write_states` meets its contract: the loop has written the records below p.
use mathlib.Core.Path.{◌∙◌}
use Rattle.normal_form.proofs.Written.{states-none, states-step}
use Rattle.normal_form.proofs.write_states.Goals as goal

pub loop-p-init : goal.loop-p-init
loop-p-init c = states-none _ _ _

pub loop-p-preserved : goal.loop-p-preserved
loop-p-preserved c = states-step _ _ c.loop-p.p _ _ _ c.loop-p.invariant c.table_state.ensures (c.put.ensures ∙ rw c.state_at.ensures)
