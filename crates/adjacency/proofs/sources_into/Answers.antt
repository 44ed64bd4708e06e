-- `adjacency::sources_into` meets its contract: by the laws of `Joining`, word by word, and `found-into`. Assumes nothing.
use mathlib.Core.Path.{◌≡◌, ap, ◌∙◌}
use Prim.Native.Nat.{ℕ, ◌*◌}
use native.Mathlib.Omega.{arith}
use lib.ListN.{get_or}
use Rattle.rows.specs.Rows.{row_of}
use Rattle.adjacency.proofs.Lookups.{found, found_none, found-more, found-into}
use Rattle.adjacency.proofs.Words.{join-row, join_more, join-end}
use Rattle.adjacency.proofs.sources_into.Invariants.{sources_at}
use Rattle.adjacency.proofs.sources_into.Goals as goal

pub loop-c-init : goal.loop-c-init
loop-c-init c = found_none c.args.places.now c.args.rows.now c.args.a c.meet-into.result

pub loop-i-init : goal.loop-i-init
loop-i-init c =
    let word = get_or c.meet-into.result c.loop-c.c 0 in
    rw (c.into_iter-i-iterator.ensures.into_iter_gives, c.ones-i-items.ensures)
    (join-row word c.loop-c.out (sources_at c.args.places.now c.args.rows.now c.args.a c.loop-c.c) _ c.loop-c.invariant c.loop-c-test.element_fits.fits)

pub loop-i-preserved : goal.loop-i-preserved
loop-i-preserved c =
    let word = get_or c.meet-into.result c.loop-c.c 0 in
    let (some, place, rest) = c.in-Some.ensures.steps.1 in
    rw rest (join_more word c.loop-c.out (sources_at c.args.places.now c.args.rows.now c.args.a c.loop-c.c) c.loop-i.invariant some (rw (← place) c.row_of.ensures) c.join-next.ensures)

pub loop-c-preserved : goal.loop-c-preserved
loop-c-preserved c =
    let word = get_or c.meet-into.result c.loop-c.c 0 in
    found-more c.args.places.now c.args.rows.now c.args.a c.meet-into.result c.loop-c.c c.loop-c.invariant
    (join-end word c.loop-c.out (sources_at c.args.places.now c.args.rows.now c.args.a c.loop-c.c) c.loop-i.invariant c.in-None.ensures.steps.1.0)

pub returns : goal.returns
returns c =
    let all : 64 * c.loop-c.c ≡ 256 = omega arith in
    λ t ix known. found-into ix c.args.a c.requires.2 known c.args.set c.entered.ensures c.meet-into.ensures
    (c.loop-c.invariant ∙ ap (λ (n : ℕ). row_of 4 (found c.args.places.now c.args.rows.now c.args.a c.meet-into.result n)) all)
