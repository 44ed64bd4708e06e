-- `strategy_check::check_table` meets its contract: every entry up to e is sound, and the marks are those after them. Assumes nothing.
use mathlib.Core.Path.{refl, sym}
use native.Mathlib.Omega.{arith}
use Rattle.transitions.proofs.Entries.{table-formed}
use Rattle.strategy_check.proofs.Checks.{table-few, checking-none, checking-stop, checking-more, checking-done}
use Rattle.strategy_check.proofs.check_table.Goals as goal

pub loop-e-init : goal.loop-e-init
loop-e-init c = checking-none _ _ _

pub slice_bounds-mark_at-end : goal.slice_bounds-mark_at-end
slice_bounds-mark_at-end c = sym c.loop-e.invariant.long

pub mark_at-last-requires : goal.mark_at-last-requires
mark_at-last-requires c =
    (c.requires.0, c.requires.1, omega (arith, c.loop-e-test.true), omega (arith, c.loop-e.invariant.long))

pub returns-then-last-eq0 : goal.returns-then-last-eq0
returns-then-last-eq0 c =
    checking-stop _ _ _ c.loop-e.e c.loop-e.invariant c.mark_at-last.ensures _ refl c.loop-e-test.true c.if-last-eq0.true

pub loop-e-preserved : goal.loop-e-preserved
loop-e-preserved c =
    let ok = c.requires.0 in
    checking-more _ _ _ c.loop-e.e c.loop-e.invariant c.mark_at-last.ensures (table-formed _ ok) (table-few _ ok) c.requires.2 c.if-last-eq0.false

pub returns : goal.returns
returns c = checking-done _ _ _ c.loop-e.e c.loop-e.invariant (omega (arith, c.loop-e-test.false))
