-- `normal_form::write_table` meets its contract: header, label records, state records and transition records follow each other.
use mathlib.Core.Path.{ap}
use Rattle.encoding.specs.Records.{encoding_length}
use Rattle.normal_form.proofs.Written.{counts-header, whole}
use borrow.Author.Rules.{rules}
use Rattle.normal_form.proofs.write_table.Goals as goal

pub write_labels-requires : goal.write_labels-requires
write_labels-requires c = let long = c.requires.1 in search rules

pub write_states-requires : goal.write_states-requires
write_states-requires c = let size = ap encoding_length (counts-header c.args.table.now c.requires.0 c.table_header-h.ensures.0 c.table_header-h.ensures.1) in
    (c.requires.0, c.table_header-h.ensures.0, search rules)

pub write_transitions-requires : goal.write_transitions-requires
write_transitions-requires c = let size = ap encoding_length (counts-header c.args.table.now c.requires.0 c.table_header-h.ensures.0 c.table_header-h.ensures.1) in
    (c.requires.0, c.table_header-h.ensures.0, search rules)

pub returns : goal.returns
returns c =
    rw (c.write_transitions.ensures, c.write_states.ensures, c.write_labels.ensures, c.put.ensures)
    (whole c.args.table.now c.requires.0 c.table_header-h.ensures.0 c.table_header-h.ensures.1 _ c.requires.1 _ c.requires.2)
