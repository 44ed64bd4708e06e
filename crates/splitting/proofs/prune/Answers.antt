-- `splitting::prune` meets its contract: the rows of a word are as they were until its turn. Assumes nothing.
use Rattle.std.specs.Int.{from_bool}
use mathlib.Core.Path.{◌≡◌, refl, sym, ap, ◌∙◌}
use mathlib.Core.Bool.{Bool, true, false, cond, not, ◌&&◌, and-true}
use mathlib.Core.List.{List, ◌++◌}
use mathlib.Core.Logic.{⊎_elim}
use Prim.Native.Nat.{ℕ, ◌+◌, ◌*◌, ◌<◌}
use native.Mathlib.Omega.{arith}
use lib.ListN.{drop, replicate}
use borrow.Author.Rules.{rules}
use Rattle.lts.specs.Bounded.{list_below}
use Rattle.lts.specs.System.{Set, Rel}
use Rattle.lts.proofs.Below.{either, any-cong}
use Rattle.rows.specs.Rows.{in_row, row_of}
use Rattle.rows.proofs.Rows.{row-store}
use Rattle.sets.specs.Sets.{set_at, sets_of, window}
use Rattle.sets.proofs.Lists.{sets-cong}
use Rattle.sets.proofs.Keeping.{keep-begin, keep-more, keep-end, kept_word}
use Rattle.splitting.specs.Split.{without}
use Rattle.sets.proofs.Rewritten.{mixed, mixed-in, mixed-out, rewritten-more, rewritten-old}
use Rattle.sets.proofs.Rewritten.{rewritten-none, rewritten-done, upto, upto-none, upto-out, upto_all, upto-more}
use Rattle.sets.proofs.Rewritten.{passed, passed_none, passed-all, passed-more}
use Rattle.splitting.proofs.Touched.{rewritten-again}
use borrow.Author.Tests.{eq-eqb}
use lib.ListN.{get_or}
use Rattle.splitting.proofs.prune.Invariants.{Changed, meets, hit}
use Rattle.splitting.proofs.prune.Goals as goal

without-whole : (K : Rel) (Rem rows : Set) → sets_of 256 (mixed rows (λ t h. K t h && not (Rem h)) K) ≡ sets_of 256 (without rows Rem K)
without-whole K Rem rows = sets-cong 256 _ _ (λ g h hg hh.
    ⊎_elim (λ (e : rows g ≡ true). mixed-in rows (λ t h. K t h && not (Rem h)) K g h e ∙ sym (ap (λ (b : Bool). K g h && not (b && Rem h)) e))
    (λ (e : rows g ≡ false). mixed-out rows (λ t h. K t h && not (Rem h)) K g h e
    ∙ sym (ap (λ (b : Bool). K g h && not (b && Rem h)) e ∙ and-true (K g h))) (either (rows g)))

unfilled : (S : Set) (d : List ℕ) → d ≡ row_of 0 S ++ drop 0 d
unfolding list_below
unfilled S d = refl

pub loop-c-init : goal.loop-c-init
loop-c-init c = (
  rewritten-none (upto c.args.rows 0) (λ t h. set_at c.args.related.now t h && not (in_row c.args.rem h)) c.args.related.now c.requires
      (λ j. (c.type_inv.related j).fits)
      (λ t ht. upto-none c.args.rows 0 t refl),
  unfilled _ _,
)

pub loop-i-init : goal.loop-i-init
loop-i-init c =
    let word = get_or c.args.rows c.loop-c.c 0 in
    let K = set_at c.loop-c.related in
    let Rem = in_row c.args.rem in
    rw (c.into_iter-i-iterator.ensures.into_iter_gives, c.ones-i-items.ensures) (
      keep-begin word (hit K Rem c.loop-c.c) c.loop-c-test.element_fits.fits,
      rewritten-again c.loop-c.invariant.0 (passed c.loop-c.c word word) (λ t h. K t h && not (Rem h)) (λ t ht. passed_none c.loop-c.c word t),
    )

as_digit : (b : Bool) → from_bool b ≡ cond b 1 0
as_digit true = refl
as_digit false = refl

pub loop-i-preserved : goal.loop-i-preserved
loop-i-preserved c =
    let word = get_or c.args.rows c.loop-c.c 0 in
    let left = c.loop-i.i-iterator.left in
    let (some, place, rest) = c.in-Some.ensures.steps.1 in
    let Rem = in_row c.args.rem in
    let K = set_at c.loop-i.related in
    let K₀ = set_at c.loop-c.related in
    let inv = c.loop-i.invariant in
    let g = 64 * c.loop-c.c + c.in-Some.i in
    let hg : g < 256 = search rules in
    let more = passed-more word left inv.0.part some c.loop-c.c in
    let outside = more.apart g hg (rw place (eq-eqb _ _ refl)) in
    rw rest (
      rw place (keep-more word (hit K₀ Rem c.loop-c.c) inv.0 some
          (rw (← place) (c.from.ensures ∙ as_digit _ ∙ ap (λ (b : Bool). cond b 1 0) (c.prune_at.ensures.value
          ∙ any-cong 256 _ _ (λ h hh. ap (λ (b : Bool). b && Rem h) (rewritten-old inv.1 g h hg hh outside)))))),
      rewritten-more (λ t h. K t h && not (Rem h)) more inv.1
          (λ t h ht hh e. ap (λ (b : Bool). b && not (Rem h)) (rewritten-old inv.1 t h ht hh e)) (rw (← place) c.prune_at.ensures.related_after),
    )

pub loop-c-preserved : goal.loop-c-preserved
loop-c-preserved c =
    let Rem = in_row c.args.rem in
    let K = set_at c.loop-c.related in
    let K₀ = set_at c.args.related.now in
    let word = get_or c.args.rows c.loop-c.c 0 in
    let none = c.in-None.ensures.steps.1.0 in
    let room = c.loop-c-test.true in (
      rewritten-more (λ t h. K t h && not (Rem h)) (upto-more c.args.rows c.loop-c.c) c.loop-c.invariant.0
          (λ t h ht hh e. ap (λ (b : Bool). b && not (Rem h)) (rewritten-old c.loop-c.invariant.0 t h ht hh e))
          (rewritten-done (window c.loop-c.c word) (λ t ht. passed-all c.loop-c.c word _ t none) c.loop-i.invariant.1),
      row-store (Changed K₀ Rem (in_row c.args.rows)) (replicate {A = ℕ} 4 0) c.loop-c.out c.loop-c.c c.loop-c.invariant.1 (omega (arith, room))
          (kept_word c.args.rows (meets K₀ Rem) (meets K Rem) c.loop-c.c (keep-end word (hit K Rem c.loop-c.c) c.loop-i.invariant.0 none) (λ i l.
          any-cong 256 _ _ (λ h hh. ap (λ (b : Bool). b && Rem h)
          (rewritten-old c.loop-c.invariant.0 (64 * c.loop-c.c + i) h (omega (arith, room, l)) hh (upto-out c.args.rows c.loop-c.c (64 * c.loop-c.c + i) (omega (arith, l))))))),
    )

pub returns-clause-related_after : goal.returns-clause-related_after
returns-clause-related_after c =
    rewritten-done (in_row c.args.rows) (λ t ht. upto_all c.args.rows c.loop-c.c t c.loop-c-test.false ht) c.loop-c.invariant.0
    ∙ without-whole (set_at c.args.related.now) (in_row c.args.rem) (in_row c.args.rows)
