use lib.ListN.{get_or}
use Rattle.rows.specs.Rows.{in_row}
use Rattle.sets.specs.Sets.{set_at}
use Rattle.sets.proofs.Walks.{Part}
use Rattle.sets.proofs.Rewritten.{Rewritten, upto, passed}
use Rattle.partition.proofs.set_rows.Given as goal

abbrev pub invariant-loop-c : goal.invariant-loop-c
invariant-loop-c l = Rewritten (upto l.members l.c) (λ _. in_row l.row) (set_at l.initial.list) l.list

abbrev pub invariant-loop-i : goal.invariant-loop-i
invariant-loop-i l =
    let word = get_or l.members l.c 0 in
    let left = l.i-iterator.left in
    Part word left × Rewritten (passed l.c word left) (λ _. in_row l.row) (set_at l.initial.list) l.list
