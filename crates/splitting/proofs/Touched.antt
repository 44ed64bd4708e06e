-- Rows that one action of a refinement step leaves as they are, and the blocks that it makes. Assumes nothing.
use mathlib.Core.Path.{◌≡◌, refl, sym, ap, ap₂, ◌∙◌}
use mathlib.Core.Bool.{Bool, true, false, cond, not, ◌&&◌, true≢false}
use mathlib.Core.List.{List}
use Prim.Native.Nat.{ℕ, ◌<◌}
use Rattle.lts.specs.System.{Set, Rel}
use Rattle.lts.proofs.Below.{and-fst, and-snd}
use Rattle.sets.specs.Parts.{Parted, Owned}
use Rattle.sets.specs.Sets.{set_at}
use Rattle.sets.proofs.Lists.{sets-in, sets-cong}
use Rattle.sets.proofs.Rewritten.{Rewritten, mixed, mixed-out}
use Rattle.splitting.specs.Split.{split_related, split_blocks}
use Rattle.splitting.proofs.Laws.{SameRel}

-- a row whose block lies on one side of Rem
pub related-unsplit : (Rem : Set) (K P : Rel) (g q : ℕ) → (P g q ≡ true → Rem q ≡ Rem g) → K g q ≡ split_related Rem K P g q
unfolding split_related
related-unsplit Rem K P g q same = go (K g q) (P g q) (Rem g) (Rem q) same
  where
    go : (k p rg rq : Bool) → (p ≡ true → rq ≡ rg) → k ≡ k && not (p && not rg && rq)
    go false p rg rq s = refl
    go true false rg rq s = refl
    go true true true rq s = refl
    go true true false rq s = sym (ap not (s refl))

pub blocks-unsplit : (Rem : Set) (P : Rel) (g q : ℕ) → (P g q ≡ true → Rem q ≡ Rem g) → P g q ≡ split_blocks Rem P g q
unfolding split_blocks
blocks-unsplit Rem P g q same = go (P g q) (Rem g) (Rem q) same
  where
    go : (p rg rq : Bool) → (p ≡ true → rq ≡ rg) → p ≡ p && cond rg rq (not rq)
    go false rg rq s = refl
    go true true rq s = sym (s refl)
    go true false rq s = sym (ap not (s refl))

-- the split blocks are blocks again
pub parted-split : (P : Rel) (shared Rem : Set) → Parted P shared → Parted (split_blocks Rem P) shared
unfolding split_blocks
parted-split P shared Rem parts = record {
  sym = λ g h hg hh s. ap₂ ◌&&◌ (parts.sym g h hg hh (and-fst (P g h) _ s)) (back (Rem g) (Rem h) (and-snd (P g h) _ s));
  trans = λ g h k hg hh hk s t.
      ap₂ ◌&&◌ (parts.trans g h k hg hh hk (and-fst (P g h) _ s) (and-fst (P h k) _ t))
      (on (Rem g) (Rem h) (Rem k) (and-snd (P g h) _ s) (and-snd (P h k) _ t));
  single = λ g h hg hh e s. parts.single g h hg hh e (and-fst (P g h) _ s);
}
  where
    on : (rg rh rk : Bool) → cond rg rh (not rh) ≡ true → cond rh rk (not rk) ≡ true → cond rg rk (not rk) ≡ true
    on true true rk s t = t
    on true false rk s t = absurd (true≢false (sym s))
    on false true rk s t = absurd (true≢false (sym s))
    on false false rk s t = t

    back : (rg rh : Bool) → cond rg rh (not rh) ≡ true → cond rh rg (not rg) ≡ true
    back true rh s = ap (λ (b : Bool). cond b true false) s
    back false true s = absurd (true≢false (sym s))
    back false false s = refl

pub owned-split : (P : Rel) (S Rem : Set) → Owned P S → Owned (split_blocks Rem P) S
unfolding split_blocks
owned-split P S Rem own g hg e = ap₂ ◌&&◌ (own g hg e) (here (Rem g))
  where
    here : (r : Bool) → cond r r (not r) ≡ true
    here true = refl
    here false = refl

-- the same for relations that agree below 256
pub parted-cong : (P P' : Rel) (shared : Set) → SameRel 256 P' P → Parted P shared → Parted P' shared
parted-cong P P' shared same parts = record {
  sym = λ g h hg hh s. same h g hh hg ∙ parts.sym g h hg hh (sym (same g h hg hh) ∙ s);
  trans = λ g h k hg hh hk s t. same g k hg hk ∙ parts.trans g h k hg hh hk (sym (same g h hg hh) ∙ s) (sym (same h k hh hk) ∙ t);
  single = λ g h hg hh e s. parts.single g h hg hh e (sym (same g h hg hh) ∙ s);
}

pub owned-cong : (P P' : Rel) (S : Set) → SameRel 256 P' P → Owned P S → Owned P' S
owned-cong P P' S same own g hg e = same g g hg hg ∙ own g hg e

-- ---- what the split leaves of a row in Rem, and of one outside

module _ (Rem : Set) (K P : Rel) (g h : ℕ) where
  pub related-inside : Rem g ≡ true → split_related Rem K P g h ≡ K g h
  unfolding split_related
  related-inside e = ap (λ (b : Bool). K g h && not (P g h && not b && Rem h)) e ∙ go (K g h) (P g h)
    where
      go : (k p : Bool) → k && not (p && not true && Rem h) ≡ k
      go true true = refl
      go true false = refl
      go false p = refl

  pub related-outside : Rem g ≡ false → split_related Rem K P g h ≡ K g h && not (P g h && Rem h)
  unfolding split_related
  related-outside e = ap (λ (b : Bool). K g h && not (P g h && not b && Rem h)) e ∙ go (K g h) (P g h)
    where
      go : (k p : Bool) → k && not (p && not false && Rem h) ≡ k && not (p && Rem h)
      go true true = refl
      go true false = refl
      go false p = refl

  pub blocks-inside : Rem g ≡ true → split_blocks Rem P g h ≡ P g h && Rem h
  unfolding split_blocks
  blocks-inside e = ap (λ (b : Bool). P g h && cond b (Rem h) (not (Rem h))) e

  pub blocks-outside : Rem g ≡ false → split_blocks Rem P g h ≡ P g h && not (Rem h)
  unfolding split_blocks
  blocks-outside e = ap (λ (b : Bool). P g h && cond b (Rem h) (not (Rem h))) e

-- the split of a row is by that row of K and by its block
pub related-row : (Rem : Set) (K P K' P' : Rel) (g h : ℕ) → K g h ≡ K' g h → P g h ≡ P' g h → split_related Rem K P g h ≡ split_related Rem K' P' g h
unfolding split_related
related-row Rem K P K' P' g h k p = ap₂ (λ (a b : Bool). a && not (b && not (Rem g) && Rem h)) k p

pub blocks-row : (Rem : Set) (P P' : Rel) (g h : ℕ) → P g h ≡ P' g h → split_blocks Rem P g h ≡ split_blocks Rem P' g h
unfolding split_blocks
blocks-row Rem P P' g h p = ap (λ (b : Bool). b && cond (Rem g) (Rem h) (not (Rem h))) p

-- a list as it is at the start of a word
pub rewritten-again : {W : Set} {New Old : Rel} {g : List ℕ} → Rewritten W New Old g → (W' : Set) (New' : Rel) → ((t : ℕ) → t < 256 → W' t ≡ false)
    → Rewritten W' New' (set_at g) g
rewritten-again {W} {New} {Old} {g} was W' New' off = record {
  is = was.is ∙ sets-cong 256 _ _ (λ t h ht hh. sym (mixed-out W' New' (set_at g) t h (off t ht) ∙ sets-in 256 (mixed W New Old) was.is t h ht hh));
}
