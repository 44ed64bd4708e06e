-- One action of a refinement step by rows is document 01's: with P the blocks of K, the parts of `specs/Split.antt` are `split`, its blocks and `refine`.
-- Assumes nothing.
use mathlib.Core.Path.{◌≡◌, refl, sym, ap, ap₂, ◌∙◌, subst}
use mathlib.Core.Bool.{Bool, true, false, cond, not, ◌&&◌}
use Prim.Native.Nat.{ℕ, ◌<◌}
use lib.Dec.{T}
use Rattle.lts.specs.System.{Set, Rel, Lts, WellFormed, any_state, into}
use Rattle.lts.specs.Refinement.{block, remove, split, refine}
use Rattle.lts.proofs.Bounded.{and-iff, not_iff, any-iff, test-ext}
use Rattle.lts.proofs.Refine.{Blocks}
use Rattle.lts.proofs.System.{into-to, into-from}
use Rattle.lts.proofs.Step.{On, IsState, block-iff, refine-row}
use Rattle.lts.proofs.Below.{any-cong}
use Rattle.splitting.specs.Split.{split_related, split_blocks, prune_related, refined_related}

module _ (Rem : Set) (K : Rel) (g h : ℕ) where
  pub split-is : split_related Rem K (block K) g h ≡ split Rem K g h
  unfolding split_related split
  split-is = refl

  pub split-blocks-is : split_blocks Rem (block K) g h ≡ block (split Rem K) g h
  unfolding split_blocks split block
  split-blocks-is = go (K g h) (K h g) (Rem g) (Rem h)
    where
      go : (k k' rg rh : Bool) → k && k' && cond rg rh (not rh) ≡ k && not (k && k' && not rg && rh) && (k' && not (k' && k && not rh && rg))
      go true true true true = refl
      go true true true false = refl
      go true true false true = refl
      go true true false false = refl
      go true false rg rh = refl
      go false k' rg rh = refl

-- the members of one block of the split are all in Rem or all outside
split-same : (Rem : Set) (K : Rel) (g h : ℕ) → T (block (split Rem K) g h) → Rem g ≡ Rem h
unfolding split_blocks
split-same Rem K g h t = go (block K g h) (Rem g) (Rem h) (subst T (sym (split-blocks-is Rem K g h)) t)
  where
    go : (b rg rh : Bool) → T (b && cond rg rh (not rh)) → rg ≡ rh
    go true true true t = refl
    go true true false t = absurd t
    go true false true t = absurd t
    go true false false t = refl
    go false rg rh t = absurd t

module _ (L : Lts) (K : Rel) (𝓚 : Blocks (IsState L) (On K)) (B Y N : Set) (a : ℕ) where
  abbrev Rem : Set
  Rem = remove L a Y N

  abbrev Hits : Set
  Hits = into L a B

  abbrev M : Rel
  M = split Rem K

  pub refined-is : (g h : ℕ) → refined_related L.states Rem Hits K (block K) g h ≡ refine L B Y N a K g h
  unfolding refined_related prune_related any_state
  refined-is g h =
      ap₂ (λ (k s : Bool). k && not (s && Rem h)) (split-is Rem K g h)
      (any-cong L.states _ _ (λ x _. ap (λ (b : Bool). b && Hits x) (split-blocks-is Rem K g x)))
      ∙ sym (refine-row L K 𝓚 B Y N a g h)

  -- a hit is never in Rem: then no pair inside a block is pruned
  module _ (free : (x : ℕ) → T (Hits x) → T (Rem x) → ⊥) where
    kept : (g h : ℕ) → T (block M g h) → T (refine L B Y N a K g h)
    unfolding any_state
    kept g h t =
        subst T (sym (refine-row L K 𝓚 B Y N a g h)) ((and-iff (M g h) (not (hit && Rem h))).1 (((block-iff M g h).0 t).0, (not_iff (hit && Rem h)).1 never))
      where
        hit : Bool
        hit = any_state L (λ x. block M g x && Hits x)

        never : T (hit && Rem h) → ⊥
        never s =
            let d = (and-iff hit (Rem h)).0 s in
            let x = (any-iff L.states (λ x. block M g x && Hits x)).0 d.0 in
            let m = (and-iff (block M g x.0) (Hits x.0)).0 x.2 in
            free x.0 m.1 (subst T (sym (split-same Rem K g h t) ∙ split-same Rem K g x.0 m.0) d.1)

    within : (g h : ℕ) → T (refine L B Y N a K g h) → T (M g h)
    within g h t = ((and-iff (M g h) (not (any_state L (λ x. block M g x && Hits x) && Rem h))).0 (subst T (refine-row L K 𝓚 B Y N a g h) t)).0

    pub refined-blocks-is : (g h : ℕ) → split_blocks Rem (block K) g h ≡ block (refine L B Y N a K) g h
    refined-blocks-is g h =
        split-blocks-is Rem K g h
        ∙ test-ext (block M g h) (block (refine L B Y N a K) g h)
        (λ t. let k = (block-iff M g h).0 t in (block-iff (refine L B Y N a K) g h).1 (kept g h t, kept h g ((block-iff M h g).1 (k.1, k.0))))
        (λ t. let k = (block-iff (refine L B Y N a K) g h).0 t in (block-iff M g h).1 (within g h k.0, within h g k.1))

-- B lies in Y: a hit is not in Rem
pub hit-free : {L : Lts} → WellFormed L → (B Y N : Set) (a : ℕ) → ((q : ℕ) → T (B q) → T (Y q)) → (x : ℕ) → T (into L a B x) → T (remove L a Y N x) → ⊥
unfolding remove
hit-free {L} wf B Y N a sub x hit r =
    let i = into-to L a B x hit in
    (not_iff (into L a Y x)).0 ((and-iff (into L a N x) (not (into L a Y x))).0 r).1 (into-from wf a Y x (i.0, i.1, sub i.0 i.2))

-- ---- what the parts are where their sets and relations agree on the states below n

abbrev pub SameSet : ℕ → Set → Set → Type 0
SameSet n A B = (q : ℕ) → q < n → A q ≡ B q

abbrev pub SameRel : ℕ → Rel → Rel → Type 0
SameRel n R S = (p q : ℕ) → p < n → q < n → R p q ≡ S p q

pub split-cong : (n : ℕ) {Rem Rem' : Set} {K K' P P' : Rel} → SameSet n Rem Rem' → SameRel n K K' → SameRel n P P'
    → SameRel n (split_related Rem K P) (split_related Rem' K' P')
unfolding split_related
split-cong n r k p g h hg hh = ap₂ (λ (a b : Bool). a && not b) (k g h hg hh) (ap₂ ◌&&◌ (ap₂ (λ (a b : Bool). a && not b) (p g h hg hh) (r g hg)) (r h hh))

pub split-blocks-cong : (n : ℕ) {Rem Rem' : Set} {P P' : Rel} → SameSet n Rem Rem' → SameRel n P P' → SameRel n (split_blocks Rem P) (split_blocks Rem' P')
unfolding split_blocks
split-blocks-cong n r p g h hg hh = ap₂ ◌&&◌ (p g h hg hh) (ap₂ (λ (a b : Bool). cond a b (not b)) (r g hg) (r h hh))

pub prune-cong : (n : ℕ) {Rem Rem' Hits Hits' : Set} {K K' P P' : Rel} → SameSet n Rem Rem' → SameSet n Hits Hits' → SameRel n K K' → SameRel n P P'
    → SameRel n (prune_related n Rem Hits K P) (prune_related n Rem' Hits' K' P')
unfolding prune_related
prune-cong n r t k p g h hg hh =
    ap₂ (λ (a b : Bool). a && not b) (k g h hg hh) (ap₂ ◌&&◌ (any-cong n _ _ (λ x hx. ap₂ ◌&&◌ (p g x hg hx) (t x hx))) (r h hh))

pub refined-cong : (n : ℕ) {Rem Rem' Hits Hits' : Set} {K K' P P' : Rel} → SameSet n Rem Rem' → SameSet n Hits Hits' → SameRel n K K' → SameRel n P P'
    → SameRel n (refined_related n Rem Hits K P) (refined_related n Rem' Hits' K' P')
unfolding refined_related
refined-cong n r t k p = prune-cong n r t (split-cong n r k p) (split-blocks-cong n r p)
