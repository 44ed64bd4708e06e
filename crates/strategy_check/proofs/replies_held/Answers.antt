-- `strategy_check::replies_held` meets its contract: the row is covered up to transition i, and no entry up to j holds the pair. Assumes nothing.
use mathlib.Core.Path.{refl, sym, ◌∙◌, ap}
use native.Mathlib.Omega.{arith}
use borrow.Author.Count.{below_none, below_more}
use Rattle.transitions.proofs.Entries.{between_none, between_more, row-most}
use Rattle.strategy_check.specs.Entries.{held_before}
use Rattle.strategy_check.proofs.Replies.{covers-other, covers-held, held_at, held_none, replies-held, reply-open}
use borrow.Author.Rules.{rules}
use Rattle.strategy_check.proofs.replies_held.Goals as goal

pub replies-init : goal.replies-init
replies-init c = let end = c.offset-end.ensures.0 in
    let first = c.offset-first.ensures.0 in
    let rising = c.requires.0.rising c.args.q c.requires.1 in
    let most = row-most c.args.table.now c.requires.0 c.args.q c.requires.1 in
    (end, omega (arith, end, most), omega (arith, first), omega (arith, end, first, rising), between_none _ _ _ (omega (arith, first)))

pub entries-init : goal.entries-init
entries-init c = let l = c.replies.invariant in
    let t = c.replies-test.true in
    (l.0, l.1, l.2, t, l.4, refl, sym c.action.ensures.0 ∙ c.if-action-a.true, c.target-r.ensures.0, search rules, below_none _)

pub replies-preserved-then-holds_pair : goal.replies-preserved-then-holds_pair
replies-preserved-then-holds_pair c = let l = c.entries.invariant in
    (l.0, l.1, omega (arith, l.2), omega (arith, l.3), between_more _ _ _ l.4 (covers-held _ _ _ _ _ _ l.7 (held_at _ _ _ _ _ c.entries-test.true (sym c.holds_pair.ensures ∙ c.if-holds_pair.true))))

pub entries-preserved : goal.entries-preserved
entries-preserved c = let l = c.entries.invariant in
    (l.0, l.1, l.2, l.3, l.4, l.5, l.6, l.7, omega (arith, c.entries-test.true), below_more _ _ l.9 (sym c.holds_pair.ensures ∙ c.if-holds_pair.false))

pub replies-preserved : goal.replies-preserved
replies-preserved c = let l = c.replies.invariant in
    (l.0, l.1, omega (arith, l.2), omega (arith, c.replies-test.true), between_more _ _ _ l.4 (covers-other _ _ _ _ _ _ (λ e. c.if-action-a.false (c.action.ensures.0 ∙ e))))

pub returns-then-action-a : goal.returns-then-action-a
returns-then-action-a c = let l = c.entries.invariant in
    reply-open c.args.table.now c.requires.0 c.args.q c.requires.1 _ _ _ _ c.replies.i (l.2, omega (arith, l.0, l.3)) l.6
    (ap (held_before _ _ _) (sym l.7) ∙ held_none _ _ _ _ (λ j h. l.9 j (omega (arith, c.entries-test.false))))

pub returns : goal.returns
returns c = let l = c.replies.invariant in
    replies-held c.args.table.now c.requires.0 c.args.q c.requires.1 _ _ _ _ (λ j x y. l.4 j x (omega (arith, l.0, y, c.replies-test.false)))
