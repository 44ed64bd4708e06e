-- `adjacency::lacking` meets its contract: by the laws of `Keeping`, word by word, and `kept-lacking`. Assumes nothing.
use Rattle.std.specs.Int.{from_bool}
use mathlib.Core.Path.{◌≡◌, refl, ap, ◌∙◌}
use mathlib.Core.Bool.{Bool, false, true, cond, not, ◌&&◌}
use Prim.Native.Nat.{ℕ, ◌+◌, ◌*◌}
use native.Mathlib.Omega.{arith}
use lib.ListN.{get_or, replicate}
use Rattle.lts.specs.Bounded.{any_below, list_below}
use Rattle.lts.proofs.Below.{any-cong}
use Rattle.rows.specs.Rows.{in_row}
use Rattle.rows.proofs.Rows.{row-store, row_done, row-whole}
use Rattle.sets.proofs.Lists.{set-in}
use Rattle.sets.proofs.Keeping.{keep-begin, keep-more, keep-end, kept_word}
use Rattle.adjacency.proofs.Lookups.{lacks, kept, kept-lacking, targets_of}
use Rattle.adjacency.proofs.lacking.Invariants.{test}
use Rattle.adjacency.proofs.lacking.Goals as goal

pub loop-c-init : goal.loop-c-init
unfolding list_below
loop-c-init c = refl

pub loop-i-init : goal.loop-i-init
loop-i-init c =
    rw (c.into_iter-i-iterator.ensures.into_iter_gives, c.ones-i-items.ensures)
    (keep-begin (get_or c.args.set c.loop-c.c 0) (test c.args.places.now c.args.rows.now c.args.a c.loop-c.c c.args.inside) c.loop-c-test.element_fits.fits)

as_digit : (b : Bool) → from_bool b ≡ cond b 1 0
as_digit true = refl
as_digit false = refl

pub loop-i-preserved : goal.loop-i-preserved
loop-i-preserved c =
    let (some, place, rest) = c.in-Some.ensures.steps.1 in
    let here = targets_of c.args.places.now c.args.rows.now c.args.a (64 * c.loop-c.c + c.in-Some.i) in
    let goes : c.any.result ≡ any_below 256 (λ q. here q && in_row c.args.inside q) =
    c.any.ensures
    ∙ any-cong 256 _ _ (λ q h. set-in _ c.meet.ensures q h
    ∙ ap (λ (x : Bool). x && in_row c.args.inside q) (set-in here c.row_of-targets.ensures q h)) in
    rw (place, rest) (keep-more (get_or c.args.set c.loop-c.c 0) (test c.args.places.now c.args.rows.now c.args.a c.loop-c.c c.args.inside) c.loop-i.invariant some
    (rw (← place) (c.from.ensures ∙ as_digit _ ∙ ap (λ (x : Bool). cond (not x) 1 0) goes)))

pub loop-c-preserved : goal.loop-c-preserved
loop-c-preserved c =
    let places = c.args.places.now in
    let rows = c.args.rows.now in
    let G = lacks places rows c.args.a c.args.inside in
    row-store (kept places rows c.args.a c.args.set c.args.inside) (replicate {A = ℕ} 4 0) c.loop-c.out c.loop-c.c c.loop-c.invariant c.loop-c-test.true
    (kept_word c.args.set G G c.loop-c.c (keep-end _ _ c.loop-i.invariant c.in-None.ensures.steps.1.0) (λ i l. refl))

pub returns : goal.returns
returns c =
    let S = kept c.args.places.now c.args.rows.now c.args.a c.args.set c.args.inside in
    let all : c.loop-c.c ≡ 4 = omega arith in
    λ t ix known. row_done S (replicate {A = ℕ} 4 0) c.loop-c.out c.loop-c.c c.loop-c.invariant all ∙ row-whole 4 S (replicate {A = ℕ} 4 0) refl
    ∙ kept-lacking ix c.args.a c.requires.2 known c.args.set c.args.inside
