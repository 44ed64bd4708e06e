-- `strategy_judge::mark_over` meets its contract: test by test.
use mathlib.Core.Path.{refl}
use mathlib.Core.Bool.{false}
use native.Mathlib.Omega.{arith}
use Rattle.strategy_judge.proofs.Marks.{judgeable-some, unsound-p, unsound-q, unsound-t, sound-outside, sound-inside, mark-by, mark-outside}
use Rattle.strategy_judge.proofs.mark_over.Goals as goal

pub returns-then-n-p : goal.returns-then-n-p
returns-then-n-p c = (mark-by _ _ _ _ false (unsound-p _ _ _ _ c.states-n.ensures.0 (rw c.from-p.ensures at c.if-n-p.true)) refl, omega arith)

pub returns-then-n-q : goal.returns-then-n-q
returns-then-n-q c =
    let p = rw c.from-p.ensures at c.if-n-p.false in
    let q = rw c.from-q.ensures at c.if-n-q.true in
    (mark-by _ _ _ _ false (unsound-q _ _ _ _ c.states-n.ensures.0 p q) refl, omega arith)

pub is_outside-requires : goal.is_outside-requires
is_outside-requires c =
    let n = c.states-n.ensures.0 in
    let k = judgeable-some _ _ c.requires.0 n c.if-n-p.false in
    (k.1, omega (arith, k.0.states, n), c.if-n-p.false, c.if-n-q.false)

pub returns-then-is_outside : goal.returns-then-is_outside
returns-then-is_outside c =
    let p = rw c.from-p.ensures at c.if-n-p.false in
    let q = rw c.from-q.ensures at c.if-n-q.false in
    let o = rw (c.from-p.ensures, c.from-q.ensures, c.from-a.ensures, c.from-t.ensures) at c.is_outside.ensures in
    (mark-outside _ _ _ _ _ (sound-outside _ _ _ _ c.states-n.ensures.0 p q o c.if-is_outside.true) o c.if-is_outside.true, omega arith)

pub returns-then-n-t : goal.returns-then-n-t
returns-then-n-t c =
    let p = rw c.from-p.ensures at c.if-n-p.false in
    let q = rw c.from-q.ensures at c.if-n-q.false in
    let t = rw c.from-t.ensures at c.if-n-t.true in
    let o = rw (c.from-p.ensures, c.from-q.ensures, c.from-a.ensures, c.from-t.ensures) at c.is_outside.ensures in
    (mark-by _ _ _ _ false (unsound-t _ _ _ _ c.states-n.ensures.0 p q o c.if-is_outside.false (judgeable-some _ _ c.requires.0 c.states-n.ensures.0 p).0 t) refl, omega arith)

pub refuted_mark-requires : goal.refuted_mark-requires
refuted_mark-requires c = let n = c.states-n.ensures.0 in
    ((judgeable-some _ _ c.requires.0 n c.if-n-p.false).0, omega (arith, n, c.if-n-p.false), omega (arith, n, c.if-n-q.false), omega (arith, n, c.if-n-t.false), c.requires.1)

pub returns : goal.returns
returns c =
    let p = rw c.from-p.ensures at c.if-n-p.false in
    let q = rw c.from-q.ensures at c.if-n-q.false in
    let o = rw (c.from-p.ensures, c.from-q.ensures, c.from-a.ensures, c.from-t.ensures) at c.is_outside.ensures in
    let m = rw (c.from-p.ensures, c.from-q.ensures, c.from-a.ensures, c.from-t.ensures) at c.refuted_mark.ensures.0 in
    (mark-by _ _ _ _ _ (sound-inside _ _ _ _ c.states-n.ensures.0 p q o c.if-is_outside.false refl) m, c.refuted_mark.ensures.1)
