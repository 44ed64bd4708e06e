-- `normal_form::table_length` meets its contract: the length that the header says.
use mathlib.Core.Path.{sym, ap, ◌∙◌}
use Rattle.encoding.specs.Records.{encoding_length}
use Rattle.normal_form.proofs.Written.{counts-header}
use Rattle.normal_form.proofs.table_length.Goals as goal

pub returns : goal.returns
returns c = c.length.ensures ∙ ap encoding_length (sym (counts-header c.args.table.now c.requires c.table_header.ensures.0 c.table_header.ensures.1))
