-- `strategy_check::mark_at` meets its contract: by whether the entry is sound, with the numbers as they were read. Assumes nothing.
use mathlib.Core.Path.{sym, ◌∙◌}
use native.Mathlib.Omega.{arith}
use Rattle.strategy_check.proofs.Checks.{sound-below, sound-read, marking-unsound, marking-sound}
use Rattle.strategy_check.proofs.mark_at.Goals as goal

pub returns-then-not-is_sound : goal.returns-then-not-is_sound
returns-then-not-is_sound c =
    marking-unsound _ _ _ _ _ (sym (sound-read _ _ _ _ c.entry_at-entry.ensures) ∙ sym c.is_sound.ensures ∙ c.if-not-is_sound.true)

pub entry_mark-mark-requires : goal.entry_mark-mark-requires
entry_mark-mark-requires c =
    let l = sound-below _ _ _ _ _ _ _ _ c.requires.0 (sym c.is_sound.ensures ∙ c.if-not-is_sound.false) in
    (c.requires.0, rw c.from-q.ensures l.1, c.requires.3, rw c.from-2.ensures l.2)

pub lower-requires : goal.lower-requires
lower-requires c =
    let l = sound-below _ _ _ _ _ _ _ _ c.requires.0 (sym c.is_sound.ensures ∙ c.if-not-is_sound.false) in
    (c.requires.3, omega (arith, l, c.requires.0.states), omega (arith, l, c.requires.0.states))

pub returns : goal.returns
returns c =
    marking-sound _ _ _ _ _ c.entry_at-entry.ensures
    (sym (sound-read _ _ _ _ c.entry_at-entry.ensures) ∙ sym c.is_sound.ensures ∙ c.if-not-is_sound.false)
    c.from-p.ensures c.from-q.ensures c.from.ensures c.from-2.ensures
    c.entry_mark-mark.ensures c.lower.ensures
