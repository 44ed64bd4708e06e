use lib.ListN.{get_or}
use Rattle.rows.specs.Rows.{in_row}
use Rattle.sets.specs.Sets.{set_at}
use Rattle.splitting.specs.Split.{split_related, split_blocks}
use Rattle.sets.proofs.Walks.{Part}
use Rattle.sets.proofs.Rewritten.{Rewritten, upto, passed}
use Rattle.splitting.proofs.split.Given as goal

abbrev pub invariant-loop-c : goal.invariant-loop-c
invariant-loop-c l =
    Rewritten (upto l.rows l.c) (split_related (in_row l.rem) (set_at l.initial.related) (set_at l.initial.blocks)) (set_at l.initial.related) l.related
    × Rewritten (upto l.rows l.c) (split_blocks (in_row l.rem) (set_at l.initial.blocks)) (set_at l.initial.blocks) l.blocks

abbrev pub invariant-loop-i : goal.invariant-loop-i
invariant-loop-i l =
    let word = get_or l.rows l.c 0 in
    let left = l.i-iterator.left in
    Part word left
    × Rewritten (passed l.c word left) (split_related (in_row l.rem) (set_at l.initial.related) (set_at l.initial.blocks)) (set_at l.initial.related) l.related
    × Rewritten (passed l.c word left) (split_blocks (in_row l.rem) (set_at l.initial.blocks)) (set_at l.initial.blocks) l.blocks
