-- `normal_form::table_state` meets its contract.
use mathlib.Core.Path.{◌∙◌}
use Rattle.normal_form.proofs.Written.{state-is}
use Rattle.normal_form.proofs.table_state.Goals as goal

pub returns : goal.returns
returns c = c.new.ensures
    ∙ rw (c.first_index.ensures, c.mark-mark.ensures.0, c.offset-j.ensures.0, c.offset-i.ensures.0)
    (state-is c.args.table.now c.requires.0 c.args.p c.requires.1)
