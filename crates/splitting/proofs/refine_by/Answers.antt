-- `splitting::refine_by` meets its contract. Assumes nothing.
use borrow.Author.Rules.{rules}
use Rattle.rows.specs.Rows.{in_row}
use Rattle.sets.proofs.Lists.{sets-long}
use Rattle.splitting.proofs.Acting.{acted, parted-after, owned-after}
use Rattle.splitting.proofs.refine_by.Goals as goal

pub prune_hits-changed-requires : goal.prune_hits-changed-requires
prune_hits-changed-requires c =
    let cut = c.split_any.ensures.blocks_after in (
      search rules,
      sets-long 256 _ cut,
      parted-after (in_row c.args.rem) c.args.blocks.now _ cut (in_row c.args.shared) c.requires.2,
      owned-after (in_row c.args.rem) c.args.blocks.now _ cut (in_row c.args.hits) c.requires.3,
    )

pub returns : goal.returns
returns c =
    let split-rows-is = c.split_rows-rows.ensures in
    let prune-hits-is = c.prune_hits-changed.ensures in
    let join_is = c.join.ensures in
    record { acted = acted (in_row c.args.rem) (in_row c.args.hits) _ _ _ c.args.related.now c.args.blocks.now _ _ _ split-rows-is c.split_any.ensures.related_after c.split_any.ensures.blocks_after prune-hits-is join_is; parted = parted-after (in_row c.args.rem) c.args.blocks.now _ c.split_any.ensures.blocks_after (in_row c.args.shared) c.requires.2 }
