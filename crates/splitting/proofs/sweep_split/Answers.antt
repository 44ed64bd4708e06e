-- `splitting::sweep_split` meets its contract: each block that leaves is added, if a member is outside Rem. Assumes nothing.
use mathlib.Core.Path.{◌≡◌, refl, sym, ap, ap₂, ◌∙◌}
use mathlib.Core.Bool.{Bool, true, false, cond, not, ◌&&◌, ◌||◌, or-true}
use mathlib.Core.List.{List}
use mathlib.Core.Logic.{⊎_elim}
use Prim.Native.Nat.{ℕ, ◌+◌, ◌≤◌, ◌<◌}
use Rattle.lts.specs.Bounded.{any_below}
use Rattle.lts.specs.System.{Set, Rel}
use Rattle.lts.proofs.Below.{clash, either, any-yes}
use Rattle.rows.specs.Rows.{in_row, row_of, Next}
use Rattle.sets.specs.Sets.{set_at}
use Rattle.sets.specs.Parts.{Parted}
use Rattle.sets.proofs.Lists.{set-in}
use Rattle.splitting.specs.Split.{Unsplit}
use Rattle.sets.proofs.Sweep.{Swept, sweep-next, sweep-end}
use Rattle.splitting.proofs.sweep_split.Invariants.{Added}
use Rattle.splitting.proofs.sweep_split.Goals as goal

-- from `out` to `out'` the row of x was added, if some member is outside Rem
record Extended (P : Rel) (Rem : Set) (x : ℕ) (out out' : List ℕ) : Type 0 where
  pub kept : (g : ℕ) → g < 256 → in_row out g ≡ true → in_row out' g ≡ true
  pub added : (g h : ℕ) → g < 256 → h < 256 → P x g ≡ true → P x h ≡ true → Rem h ≡ false → in_row out' g ≡ true

module _ (P : Rel) (shared Rem : Set) (parts : Parted P shared) where
  module _ (out block out' : List ℕ) (x : ℕ) (row : block ≡ row_of 4 (P x)) where
    extended : out' ≡ cond (any_below 256 (λ h. in_row block h && not (Rem h))) (row_of 4 (λ q. in_row out q || in_row block q)) out → Extended P Rem x out out'
    extended e = record { kept = kept; added = added }
      where
        some : Bool
        some = any_below 256 (λ h. in_row block h && not (Rem h))

        both : Set
        both q = in_row out q || in_row block q

        with : some ≡ true → (g : ℕ) → g < 256 → in_row out' g ≡ in_row out g || P x g
        with s g hg =
            set-in both (e ∙ ap (λ (b : Bool). cond b (row_of 4 both) out) s) g hg ∙ ap (λ (b : Bool). in_row out g || b) (set-in (P x) row g hg)

        kept : (g : ℕ) → g < 256 → in_row out g ≡ true → in_row out' g ≡ true
        kept g hg o = ⊎_elim (λ (s : some ≡ true). with s g hg ∙ ap (λ (b : Bool). b || P x g) o)
            (λ (s : some ≡ false). ap (λ (l : List ℕ). in_row l g) (e ∙ ap (λ (b : Bool). cond b (row_of 4 both) out) s) ∙ o) (either some)

        added : (g h : ℕ) → g < 256 → h < 256 → P x g ≡ true → P x h ≡ true → Rem h ≡ false → in_row out' g ≡ true
        added g h hg hh p p' r =
            with (sym (any-yes 256 (λ h. in_row block h && not (Rem h)) h hh (ap₂ (λ (a b : Bool). a && not b) (set-in (P x) row h hh ∙ p') r))) g hg
            ∙ ap (λ (b : Bool). in_row out g || b) p ∙ or-true (in_row out g)

  module _ (L : Set) where
    gather-next : (out out' left : List ℕ) {left' block : List ℕ} {x x' : ℕ} → x < 256 → block ≡ row_of 4 (P x) → Extended P Rem x out out'
        → left' ≡ row_of 4 (λ q. in_row left q && not (in_row block q)) → Next (in_row left') 256 (x + 1) x'
        → Swept (Added P L Rem out) (in_row left) x → Swept (Added P L Rem out') (in_row left') x'
    gather-next out out' left {left'} {block} {x} {x'} hx row step minus next swept =
        sweep-next P (Added P L Rem out) (Added P L Rem out') (in_row left) (in_row left')
        (λ y hy. set-in _ minus y hy ∙ ap (λ (b : Bool). in_row left y && not b) (set-in (P x) row y hy))
        (λ y hy old l g h hg hh p p' o. step.kept g hg (old l g h hg hh p p' o))
        (λ l g h hg hh p p' o. step.added g h hg hh p p' o)
        (λ y hy e l g h hg hh p p' o. step.added g h hg hh (parts.trans x y g hx hy hg e p) (parts.trans x y h hx hy hh e p') o) swept next

    module _ (out left : List ℕ) {x : ℕ} (low : (y : ℕ) → y < 256 → L y ≡ Rem y && shared y)
        (end : 256 ≤ x) (swept : Swept (Added P L Rem out) (in_row left) x) where
      -- the whole block is in `out`, if y is in Rem and h is not
      split : (y h k : ℕ) → y < 256 → h < 256 → k < 256 → Rem y ≡ true → Rem h ≡ false → P y h ≡ true → P y k ≡ true → in_row out k ≡ true
      split y h k hy hh hk r o p p' =
          ⊎_elim (λ (s : shared y ≡ true). sweep-end (Added P L Rem out) (in_row left) x end swept y hy (low y hy ∙ ap₂ ◌&&◌ r s) k h hk hh p' p o)
          (λ (s : shared y ≡ false). absurd (clash (ap Rem (parts.single y h hy hh s p) ∙ r) o)) (either (shared y))

      gather-end : Unsplit P Rem (in_row out)
      gather-end k h hk hh outside p = go (Rem h) refl (Rem k) refl
        where
          back : P h k ≡ true
          back = parts.sym k h hk hh p

          go : (rh : Bool) → Rem h ≡ rh → (rk : Bool) → Rem k ≡ rk → rh ≡ rk
          go true e true d = refl
          go false e false d = refl
          go true e false d = absurd (clash (split h k k hh hk hk e d back back) outside)
          go false e true d = absurd (clash (split k h k hk hh hk d e p (parts.trans k h k hk hh hk p back)) outside)

pub loop-x-preserved : goal.loop-x-preserved
loop-x-preserved c =
    let P = set_at c.args.blocks.now in
    let parts = c.requires.1 in
    let row = c.at-block.ensures in
    gather-next P (in_row c.args.shared) (in_row c.args.rem) parts _ c.loop-x.out _ c.loop-x.left c.loop-x-test.true row
    (extended P (in_row c.args.shared) (in_row c.args.rem) parts c.loop-x.out _ _ c.loop-x.x row c.with_split-next.ensures)
    c.minus-rest.ensures c.next_state-x-in-loop-x.ensures c.loop-x.invariant

pub returns : goal.returns
returns c =
    let meet-is = c.meet-left.ensures in
    let end = c.loop-x-test.false in
    gather-end (set_at c.args.blocks.now) (in_row c.args.shared) (in_row c.args.rem) c.requires.1 _ c.loop-x.out c.loop-x.left (set-in _ meet-is) end c.loop-x.invariant
