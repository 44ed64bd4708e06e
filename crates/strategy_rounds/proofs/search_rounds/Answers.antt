-- `strategy_rounds::search_rounds` meets its contract: by the laws of `Searching`. Assumes nothing.
use mathlib.Core.Path.{sym, ap, ◌∙◌}
use lib.ListN.{length}
use borrow.Author.Rules.{rules}
use Rattle.relation.proofs.Matrices.{formed-of, length-matrix_of}
use Rattle.strategy_rounds.proofs.Searches.{falls-at-first, search-starts, falls-later-on, falls-at-none, search-ends, search-goes-on}
use Rattle.strategy_rounds.proofs.search_rounds.Goals as goal

pub count_pairs-left-requires : goal.count_pairs-left-requires
count_pairs-left-requires c = rw c.states-n.ensures.0 (c.requires.formed.1, c.requires.formed.0.states)

pub relates-requires : goal.relates-requires
relates-requires c = rw c.states-n.ensures.0 (c.requires.formed.1.long, c.requires.formed.0.states, c.requires.p_bound.0, c.requires.p_bound.1)

pub returns-then-not-relates : goal.returns-then-not-relates
returns-then-not-relates c = falls-at-first c.args.table.now c.requires.formed.0 c.args.current.now c.args.p c.args.q c.requires.p_bound.0 c.requires.p_bound.1 c.states-n.ensures.0 c.requires.formed.1
    (λ i. search rules) c.relates.ensures (c.if-not-relates.true)

pub loop-j-init : goal.loop-j-init
loop-j-init c = (
  sym c.requires.formed.2,
  search-starts c.args.table.now c.requires.formed.0 c.args.current.now c.args.p c.args.q c.requires.p_bound.0 c.requires.p_bound.1 c.states-n.ensures.0 c.requires.formed.1
      (λ i. search rules) c.relates.ensures (c.if-not-relates.false) c.count_pairs-left.ensures,
)

pub next_round-requires : goal.next_round-requires
next_round-requires c = let l = c.loop-j.invariant in
    record { formed = (c.requires.formed.0, formed-of _ _ l.1.here, ap length l.1.here ∙ length-matrix_of _ _ ∙ sym c.requires.formed.1.long ∙ sym l.0); settled = l.1.settles }

pub relates-requires-in-loop-j : goal.relates-requires-in-loop-j
relates-requires-in-loop-j c = rw c.states-n.ensures.0 ((formed-of _ _ c.next_round.ensures).long, c.requires.formed.0.states, c.requires.p_bound.0, c.requires.p_bound.1)

pub shape_of-current-then-not-relates-2 : goal.shape_of-current-then-not-relates-2
shape_of-current-then-not-relates-2 c = ap length c.loop-j.invariant.1.here ∙ length-matrix_of _ _ ∙ sym c.requires.formed.1.long

pub shape_of-next-then-not-relates-2 : goal.shape_of-next-then-not-relates-2
shape_of-next-then-not-relates-2 c = ap length c.next_round.ensures ∙ length-matrix_of _ _ ∙ sym c.requires.formed.1.long ∙ c.requires.formed.2

pub returns-then-not-relates-2 : goal.returns-then-not-relates-2
returns-then-not-relates-2 c = falls-later-on c.args.table.now c.requires.formed.0 c.args.current.now c.args.p c.args.q c.requires.p_bound.0 c.requires.p_bound.1 c.states-n.ensures.0
    c.loop-j.invariant.1 c.next_round.ensures c.relates-in-loop-j.ensures (c.if-not-relates-2.true)

pub count_pairs-rest-requires : goal.count_pairs-rest-requires
count_pairs-rest-requires c = rw c.states-n.ensures.0 (formed-of _ _ c.next_round.ensures, c.requires.formed.0.states)

pub shape_of-current-then-rest-left : goal.shape_of-current-then-rest-left
shape_of-current-then-rest-left c = ap length c.loop-j.invariant.1.here ∙ length-matrix_of _ _ ∙ sym c.requires.formed.1.long

pub shape_of-next-then-rest-left : goal.shape_of-next-then-rest-left
shape_of-next-then-rest-left c = ap length c.next_round.ensures ∙ length-matrix_of _ _ ∙ sym c.requires.formed.1.long ∙ c.requires.formed.2

pub returns-then-rest-left : goal.returns-then-rest-left
returns-then-rest-left c = falls-at-none c.args.table.now c.requires.formed.0 c.args.current.now c.args.p c.args.q c.requires.p_bound.0 c.requires.p_bound.1 c.states-n.ensures.0
    c.loop-j.invariant.1 c.next_round.ensures c.count_pairs-rest.ensures c.if-rest-left.true

pub same_rows-settled-requires : goal.same_rows-settled-requires
same_rows-settled-requires c = rw c.states-n.ensures.0 (formed-of _ _ c.loop-j.invariant.1.here, formed-of _ _ c.next_round.ensures, c.requires.formed.0.states)

pub copy_matrix-requires : goal.copy_matrix-requires
copy_matrix-requires c = ap length c.next_round.ensures ∙ length-matrix_of _ _ ∙ sym (ap length c.loop-j.invariant.1.here ∙ length-matrix_of _ _)

pub loop-j-preserved : goal.loop-j-preserved
loop-j-preserved c = (
  ap length c.next_round.ensures ∙ length-matrix_of _ _ ∙ sym c.requires.formed.1.long,
  search-goes-on c.args.table.now c.requires.formed.0 c.args.current.now c.args.p c.args.q c.requires.p_bound.0 c.requires.p_bound.1 c.states-n.ensures.0
      c.loop-j.invariant.1 c.next_round.ensures c.count_pairs-rest.ensures c.if-rest-left.false
      c.relates-in-loop-j.ensures (c.if-not-relates-2.false) c.same_rows-settled.ensures c.copy_matrix.ensures,
)

pub returns-after-loop-j : goal.returns-after-loop-j
returns-after-loop-j c = search-ends c.args.table.now c.requires.formed.0 c.args.current.now c.args.p c.args.q c.requires.p_bound.0 c.requires.p_bound.1 c.states-n.ensures.0
    c.loop-j.invariant.1 c.loop-j-test.false
