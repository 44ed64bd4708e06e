-- `partition::update_pending` meets its contract: the touched states that are alone all at once, then the other blocks. Assumes nothing.
use mathlib.Core.Path.{◌≡◌, refl, sym, ap, ap₂, ◌∙◌}
use mathlib.Core.Bool.{Bool, true, false, not, ◌&&◌, ◌||◌, and-true, and-false, or-false}
use mathlib.Core.List.{List, ◌++◌}
use mathlib.Core.Logic.{⊎_elim}
use Prim.Native.Nat.{ℕ, ◌<◌}
use native.Mathlib.Omega.{arith}
use lib.ListN.{length, drop}
use borrow.Author.Tests.{eq-eqb}
use Rattle.lts.specs.Bounded.{lowest}
use Rattle.lts.specs.System.{Rel}
use Rattle.rows.specs.Rows.{in_row, row_of}
use Rattle.sets.specs.Sets.{set_at}
use Rattle.sets.specs.Parts.{Parted, Owned}
use Rattle.lts.proofs.Below.{clash, either, and-fst, lowest-is}
use Rattle.rows.proofs.Rows.{in_row-written, length-written}
use Rattle.sets.proofs.Lists.{set-in}
use Rattle.partition.specs.Pending.{pending_in}
use Rattle.partition.proofs.Laws.{differs}
use Rattle.partition.proofs.update_pending.Goals as goal

module _ (K W P : Rel) (shared touched : List ℕ) (parted : Parted P (in_row shared)) (owned : Owned P (in_row touched)) where
  -- a touched state that is alone is its block's lowest
  pending-alone : (p : ℕ) → p < 256 → in_row touched p ≡ true → in_row shared p ≡ false → differs W K p ≡ pending_in 256 K W P p
  unfolding pending_in
  pending-alone p h t s = sym (ap (λ (b : Bool). b && differs W K p) (eq-eqb (lowest 256 (P p)) p (sym (lowest-is 256 (P p) p h (owned p h t) below))))
    where
      below : (i : ℕ) → i < p → P p i ≡ false
      below i l =
          ⊎_elim (λ (e : P p i ≡ true). let same : i ≡ p = parted.single p i h (omega (arith, l, h)) s e in absurd (omega (arith, same, l))) (λ (e : P p i ≡ false). e) (either (P p i))

  -- pending is right where nothing is touched; after the two row steps it is right at all but the shared touched states
  module _ (pending alone news mid done common : List ℕ)
      (alone-is : alone ≡ row_of 4 (λ q. in_row touched q && not (in_row shared q)))
      (news-is : news ≡ row_of 4 (λ p. in_row alone p && differs W K p))
      (mid-is : mid ≡ row_of 4 (λ q. in_row pending q && not (in_row alone q)) ++ drop 4 pending)
      (done-is : done ≡ row_of 4 (λ q. in_row mid q || in_row news q) ++ drop 4 mid)
      (common-is : common ≡ row_of 4 (λ q. in_row touched q && in_row shared q))
      (right : (p : ℕ) → p < 256 → in_row touched p ≡ false → in_row pending p ≡ pending_in 256 K W P p) where
    done-long : length pending ≡ 4 → length done ≡ 4
    done-long long =
        let here : length mid ≡ 4 = ap length mid-is ∙ length-written 4 (λ q. in_row pending q && not (in_row alone q)) pending (omega (arith, long)) ∙ long in
        ap length done-is ∙ length-written 4 (λ q. in_row mid q || in_row news q) mid (omega (arith, here)) ∙ here

    common-owned : Owned P (in_row common)
    common-owned g h e = owned g h (and-fst (in_row touched g) (in_row shared g) (sym (set-in (λ q. in_row touched q && in_row shared q) common-is g h) ∙ e))

    done-right : (p : ℕ) → p < 256 → in_row common p ≡ false → in_row done p ≡ pending_in 256 K W P p
    done-right p h e = in-done ∙ go (in_row touched p) (in_row shared p) refl refl (sym (set-in (λ q. in_row touched q && in_row shared q) common-is p h) ∙ e)
      where
        single : Bool
        single = in_row touched p && not (in_row shared p)

        in-alone : in_row alone p ≡ single
        in-alone = set-in (λ q. in_row touched q && not (in_row shared q)) alone-is p h

        in-done : in_row done p ≡ (in_row pending p && not (in_row touched p && not (in_row shared p))) || ((in_row touched p && not (in_row shared p)) && differs W K p)
        in-done =
            ap (λ (l : List ℕ). in_row l p) done-is ∙ in_row-written 4 (λ q. in_row mid q || in_row news q) (drop 4 mid) p h
            ∙ ap₂ ◌||◌
            (ap (λ (l : List ℕ). in_row l p) mid-is ∙ in_row-written 4 (λ q. in_row pending q && not (in_row alone q)) (drop 4 pending) p h ∙ ap (λ (b : Bool). in_row pending p && not b) in-alone)
            (set-in (λ p. in_row alone p && differs W K p) news-is p h ∙ ap (λ (b : Bool). b && differs W K p) in-alone)

        go : (t s : Bool) → in_row touched p ≡ t → in_row shared p ≡ s → t && s ≡ false
            → (in_row pending p && not (t && not s)) || ((t && not s) && differs W K p) ≡ pending_in 256 K W P p
        go false s a b e = or-false (in_row pending p && true) ∙ and-true (in_row pending p) ∙ right p h a
        go true true a b e = absurd (clash refl e)
        go true false a b e = ap (λ (x : Bool). x || differs W K p) (and-false (in_row pending p)) ∙ pending-alone p h a b

pub update_blocks-requires : goal.update_blocks-requires
update_blocks-requires c =
    let K = set_at c.args.related.now in
    let W = set_at c.args.viewed.now in
    let P = set_at c.args.blocks.now in
    let parted = c.requires.parted.0 in
    let owned = c.requires.parted.1 in
    let right = c.requires.by_index in
    record {
      related_len = (c.requires.related_len.0, c.requires.related_len.1, c.requires.related_len.2, done-long K W P c.args.shared c.args.touched parted owned c.args.pending.now _ _ _ _ _ c.minus-alone.ensures c.differing-open.ensures c.row_minus.ensures c.row_union.ensures c.meet.ensures right c.requires.related_len.3);
      owned = ((in_row c.args.shared, parted), common-owned K W P c.args.shared c.args.touched parted owned c.args.pending.now _ _ _ _ _ c.minus-alone.ensures c.differing-open.ensures c.row_minus.ensures c.row_union.ensures c.meet.ensures right);
      by_index = done-right K W P c.args.shared c.args.touched parted owned c.args.pending.now _ _ _ _ _ c.minus-alone.ensures c.differing-open.ensures c.row_minus.ensures c.row_union.ensures c.meet.ensures right;
    }
