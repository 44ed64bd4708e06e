-- `refinement::refine_in` meets its contract: the run on lists of sets, between matrices. Assumes nothing.
use mathlib.Core.Path.{◌≡◌, ap, ◌∙◌, subst⁻¹}
use Prim.Native.Nat.{ℕ}
use native.Mathlib.Omega.{arith}
use lib.Dec.{ltb}
use lib.ListN.{replicate, length-replicate}
use Rattle.lts.specs.Refinement.{coarsest, block}
use Rattle.rows.specs.Rows.{row_of}
use Rattle.rows.proofs.Rows.{get_or-zeros}
use Rattle.relation.specs.Matrix.{relation_of, Matrix}
use Rattle.transitions.specs.Table.{states_of, table_lts}
use Rattle.sets.specs.Sets.{sets_of}
use Rattle.sets.proofs.Lists.{sets-long, sets-none}
use Rattle.refinement.proofs.Loop.{related-clear, blocks-clear, matrix-of-list}
use Rattle.refinement.proofs.refine_in.Goals.{After-states_below-all, After-run-steps}
use Rattle.refinement.proofs.refine_in.Goals as goal

-- the set of all states, and what the run makes
all : (c : After-states_below-all) → c.states_below-all.result ≡ row_of 4 (λ q. ltb q (states_of c.args.table.now))
all c = c.states_below-all.ensures ∙ ap (λ (n : ℕ). row_of 4 (λ q. ltb q n)) c.states-n.ensures.0

made : (c : After-run-steps) → let t = c.args.table.now in let run = coarsest (table_lts t) (relation_of (states_of t) c.args.start.now) c.args.schedule.now in
    (c.run-steps.result ≡ run.steps) × (c.run-steps.new.related ≡ sets_of 256 run.final.related) × (c.run-steps.new.blocks ≡ sets_of 256 (block run.final.related))
made c =
    c.run-steps.ensures c.args.table.now c.args.start.now c.index_transitions.ensures c.requires.formed.1 (all (goal.at.After-run-steps c).After-states_below-all)
    (c.begin.ensures c.args.schedule.now)

pub begin-requires : goal.begin-requires
begin-requires c =
    let none = sets-none 256 (replicate {A = ℕ} 1024 0) (length-replicate {A = ℕ} 1024 0) (get_or-zeros 1024) in
    record {
      start = (c.requires.formed.1, all (goal.at.begin-requires c).After-states_below-all, (_, c.index_transitions.ensures));
      related_value = (none, none, none);
    }

pub run-steps-requires : goal.run-steps-requires
run-steps-requires c = (
  c.args.table.now,
  c.args.start.now,
  c.index_transitions.ensures,
  c.requires.formed.1,
  all (goal.at.run-steps-requires c).After-states_below-all,
  c.begin.ensures c.args.schedule.now,
)

pub to_matrix-requires : goal.to_matrix-requires
to_matrix-requires c =
    let n = c.states-n.ensures.0 in
    let (ok, start) = c.requires.formed in
    let related = (made (goal.at.to_matrix-requires c).After-run-steps).1 in
    record {
      n_bound = (
        omega (arith, n, ok.states),
        sets-long 256 _ related,
        subst⁻¹ (λ (m : ℕ). Matrix m c.copy_matrix.new.grid) n (subst⁻¹ (Matrix (states_of c.args.table.now)) c.copy_matrix.ensures start.matrix),
      );
      by_index = λ x y h l u. related-clear ok start c.args.schedule.now _ related x y (omega (arith, h, n)) (omega (arith, l, n)) u;
    }

pub to_matrix-requires-2 : goal.to_matrix-requires-2
to_matrix-requires-2 c =
    let n = c.states-n.ensures.0 in
    let (ok, start) = c.requires.formed in
    let blocks = (made (goal.at.to_matrix-requires-2 c).After-run-steps).2 in
    record {
      n_bound = (
        omega (arith, n, ok.states),
        sets-long 256 _ blocks,
        subst⁻¹ (λ (m : ℕ). Matrix m c.copy_matrix-2.new.grid) n (subst⁻¹ (Matrix (states_of c.args.table.now)) c.copy_matrix-2.ensures start.matrix),
      );
      by_index = λ x y h l u. blocks-clear ok start c.args.schedule.now _ blocks x y (omega (arith, h, n)) (omega (arith, l, n)) u;
    }

pub returns : goal.returns
returns c =
    let n = c.states-n.ensures.0 in
    let (ok, start) = c.requires.formed in
    let (steps, related, blocks) = made (goal.at.returns c).After-run-steps in
    (steps, matrix-of-list ok start _ _ n related c.to_matrix.ensures, matrix-of-list ok start _ _ n blocks c.to_matrix-2.ensures)
