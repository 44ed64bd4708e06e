-- `splitting::split` meets its contract: a row outside `rows` is as the split leaves it. Assumes nothing.
use mathlib.Core.Path.{◌≡◌, refl, ◌∙◌}
use mathlib.Core.Bool.{true, false}
use mathlib.Core.Logic.{⊎_elim}
use Rattle.lts.specs.System.{Set, Rel}
use Rattle.lts.proofs.Below.{either}
use Rattle.rows.specs.Rows.{in_row}
use Rattle.sets.specs.Sets.{set_at, sets_of, window}
use Rattle.sets.proofs.Lists.{sets-cong}
use Rattle.splitting.specs.Split.{split_related, split_blocks, Unsplit}
use Rattle.sets.proofs.Rewritten.{mixed, mixed-in, mixed-out, rewritten-more}
use Rattle.sets.proofs.Rewritten.{rewritten-old, rewritten-none, rewritten-done, upto, upto-none, upto_all, upto-more}
use Rattle.sets.proofs.Rewritten.{passed, passed_none, passed-all, passed-more}
use Rattle.sets.proofs.Walks.{part-all, part-next}
use lib.ListN.{get_or}
use Prim.Native.Nat.{ℕ, ◌<◌}
use Rattle.splitting.proofs.Touched.{rewritten-again, related-row, blocks-row, related-unsplit, blocks-unsplit}
use Rattle.splitting.proofs.split.Goals as goal

-- rows outside `rows` are as the split leaves them
module _ (Rem rows : Set) (K P : Rel) (unsplit : Unsplit P Rem rows) where
  related-whole : sets_of 256 (mixed rows (split_related Rem K P) K) ≡ sets_of 256 (split_related Rem K P)
  related-whole = sets-cong 256 _ _ (λ g h hg hh. ⊎_elim (λ (e : rows g ≡ true). mixed-in rows (split_related Rem K P) K g h e)
      (λ (e : rows g ≡ false). mixed-out rows (split_related Rem K P) K g h e ∙ related-unsplit Rem K P g h (unsplit g h hg hh e)) (either (rows g)))

  blocks-whole : sets_of 256 (mixed rows (split_blocks Rem P) P) ≡ sets_of 256 (split_blocks Rem P)
  blocks-whole = sets-cong 256 _ _ (λ g h hg hh. ⊎_elim (λ (e : rows g ≡ true). mixed-in rows (split_blocks Rem P) P g h e)
      (λ (e : rows g ≡ false). mixed-out rows (split_blocks Rem P) P g h e ∙ blocks-unsplit Rem P g h (unsplit g h hg hh e)) (either (rows g)))

pub loop-c-init : goal.loop-c-init
loop-c-init c =
    let K = set_at c.args.related.now in
    let P = set_at c.args.blocks.now in (
      rewritten-none (upto c.args.rows 0) (split_related (in_row c.args.rem) K P) c.args.related.now c.requires.0 (λ j. (c.type_inv.related j).fits)
          (λ t ht. upto-none c.args.rows 0 t refl),
      rewritten-none (upto c.args.rows 0) (split_blocks (in_row c.args.rem) P) c.args.blocks.now c.requires.1 (λ j. (c.type_inv.blocks j).fits)
          (λ t ht. upto-none c.args.rows 0 t refl),
    )

pub loop-i-init : goal.loop-i-init
loop-i-init c =
    let word = get_or c.args.rows c.loop-c.c 0 in
    let K = set_at c.loop-c.related in
    let P = set_at c.loop-c.blocks in
    rw (c.into_iter-i-iterator.ensures.into_iter_gives, c.ones-i-items.ensures) (
      part-all word c.loop-c-test.element_fits.fits,
      rewritten-again c.loop-c.invariant.0 (passed c.loop-c.c word word) (split_related (in_row c.args.rem) K P) (λ t ht. passed_none c.loop-c.c word t),
      rewritten-again c.loop-c.invariant.1 (passed c.loop-c.c word word) (split_blocks (in_row c.args.rem) P) (λ t ht. passed_none c.loop-c.c word t),
    )

pub loop-i-preserved : goal.loop-i-preserved
loop-i-preserved c =
    let word = get_or c.args.rows c.loop-c.c 0 in
    let left = c.loop-i.i-iterator.left in
    let (some, place, rest) = c.in-Some.ensures.steps.1 in
    let Rem = in_row c.args.rem in
    let K = set_at c.loop-i.related in
    let P = set_at c.loop-i.blocks in
    let K₀ = set_at c.loop-c.related in
    let P₀ = set_at c.loop-c.blocks in
    let inv = c.loop-i.invariant in
    let enlarged = passed-more word left inv.0 some c.loop-c.c in
    rw rest (
      part-next word left inv.0 some,
      rewritten-more (split_related Rem K P) enlarged inv.1
          (λ t h ht hh e. related-row Rem K P K₀ P₀ t h (rewritten-old inv.1 t h ht hh e) (rewritten-old inv.2 t h ht hh e)) (rw (← place) c.split_at.ensures.related_after),
      rewritten-more (split_blocks Rem P) enlarged inv.2
          (λ t h ht hh e. blocks-row Rem P P₀ t h (rewritten-old inv.2 t h ht hh e)) (rw (← place) c.split_at.ensures.blocks_after),
    )

pub loop-c-preserved : goal.loop-c-preserved
loop-c-preserved c =
    let Rem = in_row c.args.rem in
    let K = set_at c.loop-c.related in
    let P = set_at c.loop-c.blocks in
    let K₀ = set_at c.args.related.now in
    let P₀ = set_at c.args.blocks.now in
    let inv = c.loop-c.invariant in
    let grown = upto-more c.args.rows c.loop-c.c in
    let word = get_or c.args.rows c.loop-c.c 0 in
    let all = λ (t : ℕ) (ht : t < 256). passed-all c.loop-c.c word _ t c.in-None.ensures.steps.1.0 in (
      rewritten-more (split_related Rem K P) grown inv.0
          (λ t h ht hh e. related-row Rem K P K₀ P₀ t h (rewritten-old inv.0 t h ht hh e) (rewritten-old inv.1 t h ht hh e)) (rewritten-done (window c.loop-c.c word) all c.loop-i.invariant.1),
      rewritten-more (split_blocks Rem P) grown inv.1
          (λ t h ht hh e. blocks-row Rem P P₀ t h (rewritten-old inv.1 t h ht hh e)) (rewritten-done (window c.loop-c.c word) all c.loop-i.invariant.2),
    )

pub returns : goal.returns
returns c =
    let end = c.loop-c-test.false in
    let Rem = in_row c.args.rem in
    let K = set_at c.args.related.now in
    let P = set_at c.args.blocks.now in record { related_after = rewritten-done (in_row c.args.rows) (λ t ht. upto_all c.args.rows c.loop-c.c t end ht) c.loop-c.invariant.0 ∙ related-whole Rem (in_row c.args.rows) K P c.requires.2; blocks_after = rewritten-done (in_row c.args.rows) (λ t ht. upto_all c.args.rows c.loop-c.c t end ht) c.loop-c.invariant.1 ∙ blocks-whole Rem (in_row c.args.rows) K P c.requires.2 }
