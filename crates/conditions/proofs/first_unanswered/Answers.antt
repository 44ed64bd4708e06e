-- `conditions::first_unanswered` meets its contract: number by number of p's row. Assumes nothing.
use Prim.Native.Nat.{◌+◌, ◌≤◌}
use mathlib.Core.Path.{◌≡◌, sym, ap, ◌∙◌}
use mathlib.Core.Bool.{not}
use native.Mathlib.Omega.{arith}
use Rattle.transitions.specs.Table.{offset_at}
use Rattle.transitions.proofs.Entries.{between_none, between_more, offset-most}
use Rattle.conditions.proofs.first_unanswered.Goals as goal

pub loop-i-init : goal.loop-i-init
loop-i-init c = (
  omega (arith, c.offset-end.ensures.0, offset-most c.args.table.now c.requires.0 (c.args.p + 1) (omega (arith, c.requires.2))),
  between_none _ _ _ (omega (arith, c.offset-first.ensures.0)),
)

pub returns-then-not-has_answer : goal.returns-then-not-has_answer
returns-then-not-has_answer c =
    record {
      above = omega (arith, c.offset-first.ensures.0);
      below = omega (arith, c.offset-end.ensures.0);
      none = λ i low high. rw (c.loop-i.invariant.1 i low high);
      member = λ h. rw (← c.has_answer.ensures) (ap not c.if-not-has_answer.true);
    }

pub loop-i-preserved : goal.loop-i-preserved
loop-i-preserved c = (c.loop-i.invariant.0, between_more _ _ _ c.loop-i.invariant.1 (sym c.has_answer.ensures ∙ c.if-not-has_answer.false))

pub returns : goal.returns
returns c =
    let t = c.args.table.now in
    let rising : c.offset-first.result ≤ c.offset-end.result = omega (arith, c.offset-first.ensures.0, c.offset-end.ensures.0, c.requires.0.rising c.args.p c.requires.2) in
    let done : c.loop-i.i ≡ offset_at t (c.args.p + 1) = omega (arith, c.loop-i.auto.i-end rising, c.offset-end.ensures.0) in
    record {
      above = omega (arith, c.offset-end.ensures.0, c.requires.0.rising c.args.p c.requires.2);
      below = omega (arith, c.offset-end.ensures.0);
      none = λ i low high. rw (c.loop-i.invariant.1 i low (omega (arith, high, done)));
      member = λ h. absurd (omega (arith, c.offset-end.ensures.0, h));
    }
