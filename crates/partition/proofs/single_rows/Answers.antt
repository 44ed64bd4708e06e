-- `partition::single_rows` meets its contract. Assumes nothing.
use mathlib.Core.Path.{◌≡◌, refl, sym, ap, ◌∙◌, subst⁻¹}
use mathlib.Core.List.{List}
use mathlib.Core.Bool.{Bool, true, false, ◌||◌, true≢false}
use Prim.Native.Nat.{ℕ, ◌<◌}
use native.Mathlib.Omega.{arith}
use lib.Dec.{eqb}
use lib.ListN.{length}
use borrow.Author.Tests.{eqb-true}
use Rattle.lts.specs.System.{Rel}
use Rattle.rows.specs.Rows.{in_row, row_of, word_at}
use Rattle.sets.specs.Sets.{set_at}
use Rattle.lts.proofs.Below.{length-list_below}
use Rattle.rows.proofs.Rows.{in_row-of, in_row-zeros}
use Rattle.sets.proofs.Lists.{set-in}
use Rattle.partition.specs.Pending.{Singles}
use borrow.Author.Rules.{rules}
use Rattle.partition.proofs.single_rows.Invariants.{Alone}
use Rattle.partition.proofs.single_rows.Goals.{then-is_single, else-is_single}
use Rattle.partition.proofs.single_rows.Goals as goal

-- one member more, that is alone
module _ (P : Rel) (out out' : List ℕ) (g : ℕ) (long : length out ≡ 4)
    (inserted : out' ≡ row_of (length out) (λ x. eqb x g || in_row out x)) where
  long-next : length out' ≡ 4
  long-next = ap length inserted ∙ length-list_below (length out) (word_at (λ x. eqb x g || in_row out x)) ∙ long

  singles-next : ((h : ℕ) → h < 256 → P g h ≡ true → h ≡ g) → Singles P (in_row out) → Singles P (in_row out')
  singles-next here old x h hx hh s p = pick (eqb x g) refl (sym now-is ∙ s)
    where
      now-is : in_row out' x ≡ eqb x g || in_row out x
      now-is = ap (λ (l : List ℕ). in_row l x) inserted ∙ in_row-of (length out) (λ x. eqb x g || in_row out x) x (omega (arith, long, hx))

      pick : (b : Bool) → eqb x g ≡ b → b || in_row out x ≡ true → h ≡ x
      pick true e t = let same : x ≡ g = eqb-true x g e in here h hh (ap (λ (z : ℕ). P z h) (sym same) ∙ p) ∙ sym same
      pick false e t = old x h hx hh t p

pub loop-g-init : goal.loop-g-init
loop-g-init c = (search rules, λ x h hx hh s p. absurd (true≢false (sym s ∙ in_row-zeros 4 x)))

pub loop-g-preserved : goal.loop-g-preserved
loop-g-preserved c =
    let blocks = c.args.blocks.now in
    let g = c.loop-g.g in
    let inv = c.loop-g.invariant in
    elim c.if-is_single.branch [
      | then-is_single w ↦ (
        long-next (set_at blocks) c.loop-g.out _ g inv.0 (w.out-is ∙ w.insert.ensures),
        singles-next (set_at blocks) c.loop-g.out _ g inv.0 (w.out-is ∙ w.insert.ensures)
            (λ h hh p. c.is_single.ensures w.if-is_single.true h hh (set-in (set_at blocks g) c.at-block.ensures h hh ∙ p)) inv.1,
      )
      | else-is_single w ↦ subst⁻¹ (Alone blocks) w.out-is inv
    ]
