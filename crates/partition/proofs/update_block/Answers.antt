-- `partition::update_block` meets its contract. Assumes nothing.
use mathlib.Core.Path.{◌≡◌, sym, ap, ◌∙◌}
use mathlib.Core.Bool.{Bool, true, false, ◌&&◌, ◌||◌}
use mathlib.Core.List.{List}
use Prim.Native.Nat.{ℕ, ◌^◌, ◌<◌}
use lib.Dec.{eqb}
use lib.ListN.{length, get_or}
use Rattle.lts.specs.Bounded.{lowest}
use Rattle.rows.specs.Rows.{in_row, row_of}
use Rattle.sets.specs.Sets.{set_at}
use Rattle.rows.proofs.Rows.{row_of-cong, row-ext}
use Rattle.partition.proofs.Laws.{differs, differs_at}
use Rattle.partition.proofs.update_block.Goals as goal

module _ (D : Bool) (low : ℕ) (d : List ℕ) (long : length d ≡ 4) where
  put_in : {x : ℕ} {exit : List ℕ} → x ≡ low → D ≡ true → exit ≡ row_of (length d) (λ q. eqb q x || in_row d q) → exit ≡ row_of 4 (λ q. (D && eqb q low) || in_row d q)
  put_in {x} same e now =
      now ∙ ap (λ (k : ℕ). row_of k (λ q. eqb q x || in_row d q)) long
      ∙ row_of-cong 4 _ _ (λ q h. ap (λ (z : ℕ). eqb q z || in_row d q) same ∙ sym (ap (λ (b : Bool). (b && eqb q low) || in_row d q) e))

  left_out : D ≡ false → ((j : ℕ) → get_or d j 0 < 2 ^ 64) → d ≡ row_of 4 (λ q. (D && eqb q low) || in_row d q)
  left_out e words = row-ext 4 _ d long words (λ q h. sym (ap (λ (b : Bool). (b && eqb q low) || in_row d q) e))

pub returns-then-differ : goal.returns-then-differ
returns-then-differ c =
    put_in (differs (set_at c.args.viewed.now) (set_at c.args.related.now) (lowest 256 (in_row c.args.block))) (lowest 256 (in_row c.args.block)) c.args.pending.now c.requires.2 c.lowest_state-low.ensures
    (sym (differs_at (set_at c.args.viewed.now) (set_at c.args.related.now) _ c.at.ensures c.at-2.ensures ∙ ap (differs (set_at c.args.viewed.now) (set_at c.args.related.now)) c.lowest_state-low.ensures) ∙ sym c.differ.ensures ∙ c.if-differ.true) c.insert.ensures

pub returns-else-differ : goal.returns-else-differ
returns-else-differ c =
    left_out (differs (set_at c.args.viewed.now) (set_at c.args.related.now) (lowest 256 (in_row c.args.block))) (lowest 256 (in_row c.args.block)) c.args.pending.now c.requires.2
    (sym (differs_at (set_at c.args.viewed.now) (set_at c.args.related.now) _ c.at.ensures c.at-2.ensures ∙ ap (differs (set_at c.args.viewed.now) (set_at c.args.related.now)) c.lowest_state-low.ensures) ∙ sym c.differ.ensures ∙ c.if-differ.false)
    (λ j. (c.type_inv.pending j).fits)
