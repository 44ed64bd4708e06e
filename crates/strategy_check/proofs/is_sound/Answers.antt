-- `strategy_check::is_sound` meets its contract: test by test. Assumes nothing.
use mathlib.Core.Path.{sym, ◌∙◌}
use native.Mathlib.Omega.{arith}
use Rattle.transitions.proofs.Lookups.{target-in}
use Rattle.strategy_check.proofs.Replies.{unsound-p, unsound-q, sound-outside, unsound-transition, unsound-t, sound-replies}
use Rattle.strategy_check.proofs.is_sound.Goals as goal

pub returns-then-n-p : goal.returns-then-n-p
returns-then-n-p c = rw (← c.from-p.ensures) (unsound-p _ _ _ _ _ _ _ _ c.states-n.ensures.0 c.if-n-p.true)

pub returns-then-n-q : goal.returns-then-n-q
returns-then-n-q c = rw (← c.from-p.ensures, ← c.from-q.ensures) (unsound-q _ _ _ _ _ _ _ _ c.states-n.ensures.0 c.if-n-p.false c.if-n-q.true)

pub is_outside-requires : goal.is_outside-requires
is_outside-requires c = let n = c.states-n.ensures.0 in
    (rw n c.requires.1, omega (arith, n, c.requires.0.states), c.if-n-p.false, c.if-n-q.false)

pub returns-then-is_outside : goal.returns-then-is_outside
returns-then-is_outside c =
    rw (← c.from-p.ensures, ← c.from-q.ensures, ← c.from-a.ensures, ← c.from-t.ensures)
    (sound-outside _ _ _ _ _ _ _ _ c.states-n.ensures.0 c.if-n-p.false c.if-n-q.false (sym c.is_outside.ensures ∙ c.if-is_outside.true))

pub returns-then-n-t : goal.returns-then-n-t
returns-then-n-t c =
    rw (← c.from-p.ensures, ← c.from-q.ensures, ← c.from-a.ensures, ← c.from-t.ensures)
    (unsound-t _ _ _ _ _ _ _ _ c.states-n.ensures.0 c.if-n-p.false c.if-n-q.false (sym c.is_outside.ensures ∙ c.if-is_outside.false) c.requires.0 c.if-n-t.true)

pub returns-then-not-contains : goal.returns-then-not-contains
returns-then-not-contains c = let n = c.states-n.ensures.0 in
    let below = c.if-n-t.false in
    rw (← c.from-p.ensures, ← c.from-q.ensures, ← c.from-a.ensures, ← c.from-t.ensures)
    (unsound-transition _ _ _ _ _ _ _ _ n c.if-n-p.false c.if-n-q.false (sym c.is_outside.ensures ∙ c.if-is_outside.false)
    (sym (target-in c.args.table.now c.requires.0 c.from-p.result c.from-a.result (omega (arith, n, below)) c.successors.ensures) ∙ sym c.contains.ensures ∙ c.if-not-contains.true))

pub returns : goal.returns
returns c = let n = c.states-n.ensures.0 in
    let below = c.if-n-t.false in
    rw (← c.from-p.ensures, ← c.from-q.ensures, ← c.from-a.ensures, ← c.from-t.ensures)
    (c.replies_held.ensures
    ∙ sound-replies _ _ _ _ _ _ _ _ n c.if-n-p.false c.if-n-q.false (sym c.is_outside.ensures ∙ c.if-is_outside.false)
    (sym (target-in c.args.table.now c.requires.0 c.from-p.result c.from-a.result (omega (arith, n, below)) c.successors.ensures) ∙ sym c.contains.ensures ∙ c.if-not-contains.false))
