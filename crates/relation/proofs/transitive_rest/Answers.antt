-- `relation::transitive_rest` meets its contract: a state that is not left passes. Assumes nothing.
use mathlib.Core.Path.{sym, ◌∙◌}
use native.Mathlib.Omega.{arith}
use borrow.Author.Count.{below_none, below_more}
use Rattle.relation.specs.Check.{transitive_at}
use Rattle.lts.proofs.Below.{all_yes, all-not}
use Rattle.relation.proofs.Transitivity.{left-skip, left-next}
use Rattle.relation.proofs.transitive_rest.Goals as goal

pub loop-q-init : goal.loop-q-init
loop-q-init c =
    let ok = c.requires.3 in (
      c.next_state-q.ensures.below,
      left-next _ _ _ _ ok _ _ _ (omega (arith, c.row_words-w.ensures)) c.next_state-q.ensures,
      left-skip _ _ _ _ ok _ _ _ c.next_state-q.ensures (below_none _),
    )

pub transitive_pair-requires : goal.transitive_pair-requires
transitive_pair-requires c =
    (c.requires.0, c.requires.1, c.requires.2, c.loop-q-test.true, c.requires.3.members _ c.loop-q-test.true (c.loop-q.invariant.1 c.loop-q-test.true))

pub returns-then-not-transitive_pair : goal.returns-then-not-transitive_pair
unfolding transitive_at
returns-then-not-transitive_pair c =
    all-not _ _ c.loop-q.q c.loop-q-test.true (sym c.transitive_pair.ensures ∙ c.if-not-transitive_pair.true)

pub loop-q-preserved : goal.loop-q-preserved
loop-q-preserved c =
    let ok = c.requires.3 in (
      c.next_state-q-in-loop-q.ensures.below,
      left-next _ _ _ _ ok _ _ _ (omega (arith, c.row_words-w.ensures)) c.next_state-q-in-loop-q.ensures,
      left-skip _ _ _ _ ok _ _ _ c.next_state-q-in-loop-q.ensures (below_more _ _ c.loop-q.invariant.2 (λ _. sym c.transitive_pair.ensures ∙ c.if-not-transitive_pair.false)),
    )

pub returns : goal.returns
unfolding transitive_at
returns c = all_yes _ _ (λ t h. c.loop-q.invariant.2 t (omega arith) h)
