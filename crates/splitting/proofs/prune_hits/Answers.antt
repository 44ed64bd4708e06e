-- `splitting::prune_hits` meets its contract: with no hit, no row changes. Assumes nothing.
use mathlib.Core.Path.{refl, sym, ◌∙◌, subst⁻¹}
use mathlib.Core.Bool.{false, and-true}
use Prim.Native.Nat.{ℕ, ◌<◌, ◌^◌}
use lib.ListN.{replicate}
use lib.Pow.{pow_pos}
use Rattle.rows.specs.Rows.{in_row}
use Rattle.rows.proofs.Rows.{get_or-zeros, in_row-zeros, row-ext}
use Rattle.sets.specs.Sets.{set_at}
use Rattle.sets.proofs.Lists.{any-off, sets-cong, sets-ext}
use Rattle.splitting.proofs.Joining.{meets-none}
use Rattle.splitting.proofs.prune_hits.Goals as goal

pub returns-then-not-any : goal.returns-then-not-any
returns-then-not-any c =
    let any-is = c.any.ensures in
    let K = set_at c.args.related.now in
    record {
      hit = λ g. false;
      meets = meets-none (set_at c.args.blocks.now) (in_row c.args.hits) (λ g. false) (any-off 256 _ (sym any-is ∙ c.if-not-any.true)) (λ t ht. refl);
      pruned = sets-ext 256 _ c.requires.0 (λ j. (c.type_inv.related j).fits)
          ∙ sets-cong 256 _ _ (λ g h hg hh. sym (and-true (K g h)));
      reported = row-ext 4 _ (replicate 4 0) refl (λ j. subst⁻¹ (λ (x : ℕ). x < 2 ^ 64) (get_or-zeros 4 j) (pow_pos 64)) (λ q h. in_row-zeros 4 q);
    }
