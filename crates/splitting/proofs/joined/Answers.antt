-- `splitting::joined` meets its contract: what a word had and is not left has its blocks in `out`. Assumes nothing.
use mathlib.Core.Path.{◌≡◌, refl, sym, ap, ◌∙◌, subst⁻¹}
use mathlib.Core.Bool.{Bool, ◌&&◌, ◌||◌, or-true, or_assoc}
use mathlib.Core.List.{List}
use Prim.Native.Nat.{ℕ, ◌+◌, ◌-◌, ◌*◌, ◌^◌, ◌<◌}
use native.Mathlib.Omega.{arith}
use lib.Bits.{bit_and}
use lib.Count.{count_trailing_zeros}
use lib.ListN.{get_or}
use Rattle.lts.specs.System.{Set, Rel}
use Rattle.lts.proofs.Below.{and-snd, get_or-list_below}
use Rattle.rows.specs.Rows.{in_row, row_of, word_at}
use Rattle.rows.proofs.Rows.{word_at-lt}
use Rattle.sets.specs.Sets.{set_at, window}
use Rattle.sets.specs.Parts.{Parted}
use Rattle.sets.proofs.Lists.{set-in}
use Rattle.splitting.specs.Split.{Meets}
use Rattle.splitting.proofs.Joining.{meets-cong, meets-none, meets-add, meets-pass}
use Rattle.sets.proofs.Rewritten.{passed, passed_none, passed-all, passed-more, passed-drop, window-in}
use Rattle.sets.proofs.Walks.{Part, part-all, part-drop, part-next, low-lt}
use Rattle.rows.proofs.Rows.{in_row-zeros}
use Rattle.sets.proofs.Rewritten.{upto, upto-none, upto_all, upto-more}
use Rattle.splitting.proofs.joined.Invariants.{Joining}
use Rattle.splitting.proofs.joined.Goals as goal

word_small : (S : Set) (c : ℕ) {a : List ℕ} → a ≡ row_of 4 S → c < 4 → get_or a c 0 < 2 ^ 64
word_small S c e h = subst⁻¹ (λ (x : ℕ). x < 2 ^ 64) (ap (λ (l : List ℕ). get_or l c 0) e ∙ get_or-list_below 0 4 (word_at S) c h) (word_at-lt S c)

module _ (P : Rel) (shared : Set) (parts : Parted P shared) (c word : ℕ) (hc : c < 4) (from : List ℕ) where
  join_first : word < 2 ^ 64 → get_or from c 0 < 2 ^ 64 → Joining P c word from from (bit_and word ((2 ^ 64 - 1) - get_or from c 0))
  join_first hw hf = record {
    part = part-drop word word ((2 ^ 64 - 1) - get_or from c 0) (part-all word hw);
    meets = λ W meets. meets-pass P shared parts W _ (λ t. window c word t && window c (get_or from c 0) t) (in_row from)
        (λ t ht. ap (λ (b : Bool). W t || b) (passed-drop c word word (get_or from c 0) t hw hf
        ∙ ap (λ (b : Bool). b || (window c word t && window c (get_or from c 0) t)) (passed_none c word t)))
        (λ t ht e. window-in from c t (and-snd (window c word t) _ e)) meets;
  }

  join-next : (out : List ℕ) (left : ℕ) {block out' : List ℕ} → (left ≡ 0 → ⊥) → block ≡ row_of 4 (P (64 * c + count_trailing_zeros 64 left))
      → out' ≡ row_of 4 (λ q. in_row out q || in_row block q) → Joining P c word from out left
      → Joining P c word from out' (bit_and (bit_and left (left - 1)) ((2 ^ 64 - 1) - get_or block c 0))
  join-next out left {block} {out'} ne row union was = record {
    part = part-drop word less ((2 ^ 64 - 1) - get_or block c 0) next;
    meets = λ W meets. meets-pass P shared parts (λ t. W t || passed c word less t) _ (λ t. window c word t && window c (get_or block c 0) t) (in_row out')
        (λ t ht. ap (λ (b : Bool). W t || b) (passed-drop c word less (get_or block c 0) t next.small (word_small (P g) c row hc)) ∙ sym (or_assoc (W t) _ _))
        (λ t ht e. more t ht ∙ ap (λ (b : Bool). in_row out t || b) (sym (set-in (P g) row t ht) ∙ window-in block c t (and-snd (window c word t) _ e))
        ∙ or-true (in_row out t))
        (meets-add P shared parts (λ t. W t || passed c word left t) _ (in_row out) (in_row out') g hg
        (λ t ht. ap (λ (b : Bool). W t || b) ((passed-more word left was.part ne c).join t ht) ∙ sym (or_assoc (W t) _ _)) more (was.meets W meets));
  }
    where
      g : ℕ
      g = 64 * c + count_trailing_zeros 64 left

      less : ℕ
      less = bit_and left (left - 1)

      next : Part word less
      next = part-next word left was.part ne

      hg : g < 256
      hg = omega (arith, hc, low-lt word left was.part ne)

      more : (t : ℕ) → t < 256 → in_row out' t ≡ in_row out t || P g t
      more t ht = set-in _ union t ht ∙ ap (λ (b : Bool). in_row out t || b) (set-in (P g) row t ht)

  join-end : (out : List ℕ) (left : ℕ) → left ≡ 0 → Joining P c word from out left
      → (W : Set) → Meets P W (in_row from) → Meets P (λ t. W t || window c word t) (in_row out)
  join-end out left e was W meets =
      meets-cong P _ _ (in_row out) (λ t ht. ap (λ (b : Bool). W t || b) (passed-all c word left t e)) (was.meets W meets)

pub loop-c-init : goal.loop-c-init
loop-c-init c =
    meets-none (set_at c.args.blocks.now) (upto c.args.set 0) _ (λ t ht. upto-none c.args.set 0 t refl) (λ t ht. in_row-zeros 4 t)

pub loop-left-init : goal.loop-left-init
loop-left-init c =
    join_first (set_at c.args.blocks.now) c.requires.1.0 c.requires.1.1 c.loop-c.c (get_or c.args.set c.loop-c.c 0) c.loop-c-test.true c.loop-c.out
    c.loop-c-test.element_fits.fits c.loop-c-test.element_fits2.fits

pub loop-left-preserved : goal.loop-left-preserved
loop-left-preserved c =
    join-next (set_at c.args.blocks.now) c.requires.1.0 c.requires.1.1 c.loop-c.c (get_or c.args.set c.loop-c.c 0) c.loop-c-test.true c.loop-c.out c.loop-left.out c.loop-left.left
    c.loop-left-test.true c.at-block.ensures c.join-next.ensures c.loop-left.invariant

pub loop-c-preserved : goal.loop-c-preserved
loop-c-preserved c =
    let W = upto c.args.set c.loop-c.c in
    meets-cong (set_at c.args.blocks.now) _ _ _ (λ t ht. sym ((upto-more c.args.set c.loop-c.c).join t ht))
    (join-end (set_at c.args.blocks.now) c.requires.1.0 c.requires.1.1 c.loop-c.c (get_or c.args.set c.loop-c.c 0) c.loop-c-test.true c.loop-c.out c.loop-left.out c.loop-left.left
    c.loop-left-test.false c.loop-left.invariant W c.loop-c.invariant)

pub returns : goal.returns
returns c =
    meets-cong (set_at c.args.blocks.now) _ _ _ (λ t ht. upto_all c.args.set c.loop-c.c t c.loop-c-test.false ht) c.loop-c.invariant
