-- What the parts of one action make together is one action. Assumes nothing.
use mathlib.Core.Path.{◌≡◌, refl, sym, ap, ap₂, ◌∙◌}
use mathlib.Core.Bool.{Bool, true, false, not, ◌&&◌, ◌||◌}
use mathlib.Core.List.{List}
use Prim.Native.Nat.{ℕ, ◌<◌}
use Rattle.lts.specs.System.{Set}
use Rattle.lts.proofs.Below.{clash, neither, any-yes, any-cong}
use Rattle.rows.specs.Rows.{in_row, row_of}
use Rattle.sets.specs.Sets.{set_at, sets_of}
use Rattle.sets.specs.Parts.{Parted, Owned}
use Rattle.sets.proofs.Lists.{set-in, sets-in, sets-cong}
use Rattle.splitting.specs.Split.{split_related, split_blocks, prune_related, refined_related, Unsplit, Pruned, Acted}
use Rattle.splitting.proofs.Touched.{related-unsplit, blocks-unsplit, parted-split, parted-cong, owned-split, owned-cong}

-- the blocks after the split
module _ (Rem : Set) (blocks split : List ℕ) (cut : split ≡ sets_of 256 (split_blocks Rem (set_at blocks))) where
  pub parted-after : (shared : Set) → Parted (set_at blocks) shared → Parted (set_at split) shared
  parted-after shared parts =
      parted-cong (split_blocks Rem (set_at blocks)) (set_at split) shared (sets-in 256 _ cut) (parted-split (set_at blocks) shared Rem parts)

  pub owned-after : (S : Set) → Owned (set_at blocks) S → Owned (set_at split) S
  owned-after S own = owned-cong (split_blocks Rem (set_at blocks)) (set_at split) S (sets-in 256 _ cut) (owned-split (set_at blocks) S Rem own)

module _ (Rem Hits : Set) (rows changed touched related blocks related₁ blocks₁ related₂ : List ℕ)
    (unsplit : Unsplit (set_at blocks) Rem (in_row rows))
    (cut : related₁ ≡ sets_of 256 (split_related Rem (set_at related) (set_at blocks)))
    (parts : blocks₁ ≡ sets_of 256 (split_blocks Rem (set_at blocks)))
    (did : Pruned Rem Hits related₁ blocks₁ related₂ changed)
    (all : touched ≡ row_of 4 (λ q. in_row rows q || in_row changed q)) where
  refined : (g h : ℕ) → g < 256 → h < 256 → set_at related₁ g h && not (did.hit g && Rem h) ≡ refined_related 256 Rem Hits (set_at related) (set_at blocks) g h
  unfolding refined_related prune_related
  refined g h hg hh =
      ap₂ (λ (k s : Bool). k && not (s && Rem h)) (sets-in 256 _ cut g h hg hh)
      (did.meets g hg ∙ any-cong 256 _ _ (λ x hx. ap (λ (b : Bool). b && Hits x) (sets-in 256 _ parts g x hg hx)))

  -- a state outside `touched` is in no split block, and its row had nothing of Rem if its block was hit
  module _ (g h : ℕ) (hg : g < 256) (hh : h < 256) (out : in_row touched g ≡ false) where
    outside : (in_row rows g ≡ false) × (in_row changed g ≡ false)
    outside = neither (in_row rows g) (in_row changed g) (sym (set-in _ all g hg) ∙ out)

    same_row : set_at related₁ g h ≡ set_at related g h
    same_row = sets-in 256 _ cut g h hg hh ∙ sym (related-unsplit Rem (set_at related) (set_at blocks) g h (unsplit g h hg hh outside.0))

    same-pruned : set_at related₁ g h && not (did.hit g && Rem h) ≡ set_at related₁ g h
    same-pruned = go (set_at related₁ g h) refl (did.hit g) refl (Rem h) refl
      where
        some : set_at related₁ g h ≡ true → did.hit g ≡ true → Rem h ≡ true → ⊥
        some k t r = clash (set-in _ did.reported g hg ∙ ap₂ ◌&&◌ t (sym (any-yes 256 (λ h. set_at related₁ g h && Rem h) h hh (ap₂ ◌&&◌ k r)))) outside.1

        go : (k : Bool) → set_at related₁ g h ≡ k → (t : Bool) → did.hit g ≡ t → (r : Bool) → Rem h ≡ r → k && not (t && r) ≡ k
        go false e t f r d = refl
        go true e false f r d = refl
        go true e true f false d = refl
        go true e true f true d = absurd (some e f d)

  pub acted : Acted Rem Hits related blocks related₂ blocks₁ touched
  acted = record {
    related-is = did.pruned ∙ sets-cong 256 _ _ refined;
    blocks_is = parts;
    related_same = λ g h hg hh out. sets-in 256 _ did.pruned g h hg hh ∙ same-pruned g h hg hh out ∙ same_row g h hg hh out;
    blocks-same = λ g h hg hh out.
        sets-in 256 _ parts g h hg hh ∙ sym (blocks-unsplit Rem (set_at blocks) g h (unsplit g h hg hh (outside g h hg hh out).0));
  }
