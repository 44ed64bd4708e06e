-- `partition::differing` meets its contract: word by word, by the laws of `Keeping`. Assumes nothing.
use Rattle.std.specs.Int.{from_bool}
use mathlib.Core.Path.{◌≡◌, refl, ap, ◌∙◌}
use mathlib.Core.Bool.{Bool, false, true, cond}
use lib.ListN.{get_or}
use Rattle.lts.specs.Bounded.{list_below}
use Rattle.rows.proofs.Rows.{row-store}
use Rattle.sets.specs.Sets.{set_at}
use Rattle.sets.proofs.Keeping.{keep-begin, keep-more, keep-end, kept_word}
use Rattle.partition.proofs.Laws.{differs, differs_at}
use Rattle.partition.proofs.differing.Invariants.{test}
use Rattle.partition.proofs.differing.Goals as goal

pub loop-c-init : goal.loop-c-init
unfolding list_below
loop-c-init c = refl

pub loop-i-init : goal.loop-i-init
loop-i-init c =
    rw (c.into_iter-i-iterator.ensures.into_iter_gives, c.ones-i-items.ensures) (keep-begin (get_or c.args.members c.loop-c.c 0) (test c.args.a.now c.args.b.now c.loop-c.c) c.loop-c-test.element_fits.fits)

as_digit : (b : Bool) → from_bool b ≡ cond b 1 0
as_digit true = refl
as_digit false = refl

pub loop-i-preserved : goal.loop-i-preserved
loop-i-preserved c =
    let (some, place, rest) = c.in-Some.ensures.steps.1 in
    rw (place, rest) (keep-more (get_or c.args.members c.loop-c.c 0) (test c.args.a.now c.args.b.now c.loop-c.c) c.loop-i.invariant some
    (rw (← place) (c.from.ensures ∙ as_digit _ ∙ ap (λ (b : Bool). cond b 1 0) (c.differ.ensures ∙ differs_at (set_at c.args.a.now) (set_at c.args.b.now) _ c.at.ensures c.at-in-loop-i.ensures))))

pub loop-c-preserved : goal.loop-c-preserved
loop-c-preserved c =
    let G = differs (set_at c.args.a.now) (set_at c.args.b.now) in
    row-store _ _ _ c.loop-c.c c.loop-c.invariant c.loop-c-test.true
    (kept_word c.args.members G G c.loop-c.c (keep-end _ _ c.loop-i.invariant c.in-None.ensures.steps.1.0) (λ i l. refl))
