-- `coarsest::refine_in` meets its contract: the counts and the representatives of a run's matrices. Assumes nothing.
use native.Mathlib.Omega.{arith}
use mathlib.Core.Path.{◌∙◌, sym}
use Rattle.coarsest.proofs.Laws.{table-related, table-blocks, table-reflexive, table-refined}
use Rattle.coarsest.proofs.refine_in.Goals as goal

pub write_names-requires : goal.write_names-requires
write_names-requires c =
    let p = c.requires.formed in
    let schedule = c.args.schedule.now in
    let n = c.states-n.ensures.0 in
    (omega (arith, n, p.0.states), table-blocks p.0 p.1 schedule n c.refine_all-steps.ensures.related_after c.refine_all-steps.ensures.blocks_after, table-reflexive p.0 p.1 schedule n c.refine_all-steps.ensures.related_after c.refine_all-steps.ensures.blocks_after, p.2 ∙ sym n)

pub count_pairs-requires : goal.count_pairs-requires
count_pairs-requires c =
    let p = c.requires.formed in
    let n = c.states-n.ensures.0 in
    (table-related p.0 p.1 c.args.schedule.now n c.refine_all-steps.ensures.related_after c.refine_all-steps.ensures.blocks_after, omega (arith, n, p.0.states))

pub count_blocks-requires : goal.count_blocks-requires
count_blocks-requires c =
    let p = c.requires.formed in
    let n = c.states-n.ensures.0 in
    (omega (arith, n, p.0.states), table-blocks p.0 p.1 c.args.schedule.now n c.refine_all-steps.ensures.related_after c.refine_all-steps.ensures.blocks_after)

pub returns : goal.returns
returns c =
    let p = c.requires.formed in
    table-refined p.0 p.1 c.args.schedule.now c.states-n.ensures.0 c.refine_all-steps.ensures.related_after c.refine_all-steps.ensures.blocks_after
    c.refine_all-steps.ensures.result_value c.count_pairs.ensures c.count_blocks.ensures c.write_names.ensures
