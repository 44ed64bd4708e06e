-- The set of the pending representatives and the set of the states that share a block, from step to step. Assumes nothing.
use Prim.Native.Nat.{ℕ, ◌<◌}
use mathlib.Core.Path.{◌≡◌, refl, sym, ap, ap₂, ◌∙◌}
use mathlib.Core.Bool.{Bool, true, false, not, ◌&&◌, xor, true≢false}
use mathlib.Core.List.{List}
use lib.Dec.{eqb}
use Rattle.lts.specs.System.{Set, Rel}
use Rattle.lts.proofs.Below.{any-cong, lowest-agree}
use Rattle.rows.specs.Rows.{in_row, row_of}
use Rattle.sets.specs.Sets.{set_at}
use Rattle.sets.specs.Parts.{Parted}
use Rattle.sets.proofs.Lists.{set-in}
use Rattle.partition.specs.Pending.{pending_in, Singles}
use Rattle.refinement.specs.Engine.{Made}

abbrev pub pending_at : List ℕ → List ℕ → List ℕ → Set
pending_at related viewed blocks = pending_in 256 (set_at related) (set_at viewed) (set_at blocks)

-- whether p is pending depends on its rows of K, V and the blocks alone
pending-same : (n : ℕ) (K W P K' W' P' : Rel) (p : ℕ) → ((q : ℕ) → q < n → K' p q ≡ K p q) → ((q : ℕ) → q < n → W' p q ≡ W p q) → ((q : ℕ) → q < n → P' p q ≡ P p q)
    → pending_in n K W P p ≡ pending_in n K' W' P' p
unfolding pending_in
pending-same n K W P K' W' P' p k w b =
    ap₂ ◌&&◌ (ap (λ (x : ℕ). eqb x p) (lowest-agree n (P p) (P' p) (λ q h. sym (b q h))))
    (any-cong n (λ q. xor (W p q) (K p q)) (λ q. xor (W' p q) (K' p q)) (λ q h. ap₂ xor (sym (w q h)) (sym (k q h))))

-- the pending set is right after a step at the states that the step did not touch
pub pending-kept : {t : List ℕ} {b : ℕ} {shared related viewed blocks related' viewed' blocks' touched pending : List ℕ} → Made t b shared related viewed blocks related' viewed' blocks' touched
    → pending ≡ row_of 4 (pending_at related viewed blocks) → (p : ℕ) → p < 256 → in_row touched p ≡ false → in_row pending p ≡ pending_at related' viewed' blocks' p
pending-kept {related = related} {viewed} {blocks} {related'} {viewed'} {blocks'} made before p h out =
    set-in _ before p h
    ∙ pending-same 256 (set_at related) (set_at viewed) (set_at blocks) (set_at related') (set_at viewed') (set_at blocks') p
    (λ q l. made.untouched.related_same p q h l out) (λ q l. made.viewed-same p q h l out) (λ q l. made.untouched.blocks-same p q h l out)

-- states that are alone in their block are taken out of the shared ones
pub parted-minus : {P : Rel} (shared alone : List ℕ) {shared' : List ℕ} → Parted P (in_row shared) → Singles P (in_row alone)
    → shared' ≡ row_of 4 (λ q. in_row shared q && not (in_row alone q)) → Parted P (in_row shared')
parted-minus {P} shared alone parts singles e = record {
  sym = parts.sym;
  trans = parts.trans;
  single = λ g h hg hh out p. go g h hg hh p (in_row shared g) refl (in_row alone g) refl (sym (set-in _ e g hg) ∙ out);
}
  where
    go : (g h : ℕ) → g < 256 → h < 256 → P g h ≡ true → (s : Bool) → in_row shared g ≡ s → (a : Bool) → in_row alone g ≡ a → s && not a ≡ false → h ≡ g
    go g h hg hh p false s a d o = parts.single g h hg hh s p
    go g h hg hh p true s true d o = singles g h hg hh d p
    go g h hg hh p true s false d o = absurd (true≢false o)
