-- `partition::set_rows` meets its contract: word by word of the members, and state by state of a word. Assumes nothing.
use mathlib.Core.Path.{◌≡◌, refl, sym, ◌∙◌}
use lib.ListN.{get_or}
use Rattle.rows.specs.Rows.{in_row}
use Rattle.sets.specs.Sets.{set_at, updated, window}
use Rattle.sets.proofs.Lists.{sets-in, sets-cong}
use Rattle.lts.specs.System.{Set, Rel}
use mathlib.Core.Bool.{false}
use mathlib.Core.List.{List}
use Prim.Native.Nat.{ℕ, ◌<◌}
use Rattle.sets.proofs.Walks.{part-all, part-next}
use Rattle.sets.proofs.Rewritten.{Rewritten, mixed, mixed-out, rewritten-long, rewritten-more, rewritten-none, rewritten-done, written}
use Rattle.sets.proofs.Rewritten.{upto, upto-none, upto_all, upto-more, passed, passed_none, passed-all, passed-more}
use Rattle.partition.proofs.set_rows.Goals as goal

pub loop-c-init : goal.loop-c-init
loop-c-init c =
    rewritten-none (upto c.args.members 0) (λ _. in_row c.args.row) c.args.list.now c.requires (λ j. (c.type_inv.list j).fits) (λ t ht. upto-none c.args.members 0 t refl)

-- the list as it is at the start of a word
rewritten-again : {W : Set} {New Old : Rel} {g : List ℕ} → Rewritten W New Old g → (W' : Set) (New' : Rel) → ((t : ℕ) → t < 256 → W' t ≡ false)
    → Rewritten W' New' (set_at g) g
rewritten-again {W} {New} {Old} {g} was W' New' off = record {
  is = was.is ∙ sets-cong 256 _ _ (λ t h ht hh. sym (mixed-out W' New' (set_at g) t h (off t ht) ∙ sets-in 256 (mixed W New Old) was.is t h ht hh));
}

pub loop-i-init : goal.loop-i-init
loop-i-init c =
    let word = get_or c.args.members c.loop-c.c 0 in
    rw (c.into_iter-i-iterator.ensures.into_iter_gives, c.ones-i-items.ensures) (
      part-all word c.loop-c-test.element_fits.fits,
      rewritten-again c.loop-c.invariant (passed c.loop-c.c word word) (λ _. in_row c.args.row) (λ t ht. passed_none c.loop-c.c word t),
    )

pub loop-i-preserved : goal.loop-i-preserved
loop-i-preserved c =
    let word = get_or c.args.members c.loop-c.c 0 in
    let left = c.loop-i.i-iterator.left in
    let (some, place, rest) = c.in-Some.ensures.steps.1 in
    rw rest (
      part-next word left c.loop-i.invariant.0 some,
      rewritten-more (λ _. in_row c.args.row) (passed-more word left c.loop-i.invariant.0 some c.loop-c.c) c.loop-i.invariant.1 (λ t h ht hh e. refl)
          (rw (← place) (written _ c.loop-i.list c.args.row (λ _. in_row c.args.row) (rewritten-long c.loop-i.invariant.1) c.put.ensures (λ h hh. refl))),
    )

pub loop-c-preserved : goal.loop-c-preserved
unfolding updated
loop-c-preserved c =
    let word = get_or c.args.members c.loop-c.c 0 in
    rewritten-more (λ _. in_row c.args.row) (upto-more c.args.members c.loop-c.c) c.loop-c.invariant (λ t h ht hh e. refl)
    (rewritten-done (window c.loop-c.c word) (λ t ht. passed-all c.loop-c.c word _ t c.in-None.ensures.steps.1.0) c.loop-i.invariant.1)

pub returns : goal.returns
unfolding updated
returns c =
    rewritten-done (in_row c.args.members) (λ t ht. upto_all c.args.members c.loop-c.c t c.loop-c-test.false ht) c.loop-c.invariant
