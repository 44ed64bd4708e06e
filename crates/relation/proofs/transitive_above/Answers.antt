-- `relation::transitive_above` meets its contract: a state that leaves `left` passes. Assumes nothing.
use mathlib.Core.Path.{refl, sym, ◌∙◌}
use native.Mathlib.Omega.{arith}
use Rattle.relation.specs.Check.{transitive_at}
use Rattle.lts.proofs.Below.{all-not, clash}
use Rattle.relation.proofs.Rows.{row_words_lem}
use Rattle.relation.proofs.Transitivity.{left-next, left_less}
use borrow.Author.Rules.{rules}
use Rattle.relation.proofs.transitive_above.Goals as goal

pub loop-q-init : goal.loop-q-init
loop-q-init c =
    let ok = c.requires.matrix.3 in
    (c.next_state-q.ensures.below, omega (arith, c.next_state-q.ensures.above), left-next _ _ _ _ ok _ _ _ (omega (arith, c.row_words-w.ensures)) c.next_state-q.ensures, refl, ok)

pub transitive_pair-requires : goal.transitive_pair-requires
transitive_pair-requires c =
    let here = c.loop-q.invariant in
    (c.requires.matrix.0, c.requires.matrix.1, c.requires.matrix.2, c.loop-q-test.true, here.4.members _ c.loop-q-test.true (here.2 c.loop-q-test.true))

pub returns-then-not-transitive_pair : goal.returns-then-not-transitive_pair
unfolding transitive_at
returns-then-not-transitive_pair c = (
  λ _. sym (all-not _ _ c.loop-q.q c.loop-q-test.true (sym c.transitive_pair.ensures ∙ c.if-not-transitive_pair.true)),
  λ e. absurd (clash e refl),
)

pub row_minus-requires : goal.row_minus-requires
row_minus-requires c =
    let width = c.row_words-w.ensures in (
      omega (arith, width, c.loop-q.invariant.4.long),
      row_words_lem c.args.n c.args.grid.now width c.row_at.ensures c.loop-q-test.true c.requires.matrix.0,
    )

pub loop-q-preserved : goal.loop-q-preserved
loop-q-preserved c =
    let here = c.loop-q.invariant in
    let q = c.loop-q.q in
    let low = c.loop-q-test.true in
    let width = c.row_words-w.ensures in
    let less = left_less c.args.n c.args.grid.now c.args.p q _ _ _ width here.4 low (here.2 low)
    (sym c.transitive_pair.ensures ∙ c.if-not-transitive_pair.false) (c.requires.by_index q here.1 low) c.row_at.ensures c.row_minus.ensures in
    (c.next_state-q-in-loop-q.ensures.below, omega (arith, c.next_state-q-in-loop-q.ensures.above), left-next _ _ _ _ less _ _ _ (omega (arith, width)) c.next_state-q-in-loop-q.ensures, search rules, less)

pub returns : goal.returns
returns c = (λ e. absurd (clash refl e), λ _. c.loop-q.invariant.4)
