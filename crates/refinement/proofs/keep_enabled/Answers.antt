-- `refinement::keep_enabled` meets its contract: by `kept_more`. Assumes nothing.
use Rattle.sets.specs.Sets.{set_at}
use Rattle.refinement.proofs.Beginning.{kept-none, kept_more}
use Rattle.refinement.proofs.keep_enabled.Goals as goal

pub loop-i-init : goal.loop-i-init
loop-i-init c = kept-none c.args.table.now c.args.rows.now _ c.requires.0 (λ j. (c.type_inv.related j).fits)

pub loop-i-preserved : goal.loop-i-preserved
loop-i-preserved c =
    kept_more c.args.table.now c.args.rows.now (set_at c.args.related.now) c.loop-i.i c.loop-i.related _ _ _ c.source-p.ensures.0
    c.action.ensures.0 c.loop-i.invariant c.at.ensures c.enabled-able.ensures c.meet.ensures c.put.ensures
