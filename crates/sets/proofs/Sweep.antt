-- A sweep over a set of states, a block at a time: the whole block leaves the set once one of its members is done. Assumes nothing.
use mathlib.Core.Path.{◌≡◌, sym, ap, ◌∙◌, subst}
use mathlib.Core.Bool.{Bool, true, false, not, ◌&&◌, and-true}
use mathlib.Core.Logic.{⊎_elim}
use Prim.Native.Nat.{ℕ, ◌+◌, ◌≤◌, ◌<◌}
use native.Mathlib.Nat.{eq-or-lt_of_le}
use native.Mathlib.Omega.{arith}
use Rattle.lts.specs.System.{Set, Rel}
use Rattle.lts.proofs.Below.{lt-or-ge, either}
use Rattle.rows.specs.Rows.{Next}

-- each state that is not left is done, and so is each below x; x is left
pub record Swept (Done : ℕ → Type 0) (left : Set) (x : ℕ) : Type 0 where
  pub done : (y : ℕ) → y < 256 → left y ≡ false → Done y
  pub low : (y : ℕ) → y < 256 → y < x → Done y
  pub member : x < 256 → left x ≡ true
  pub below : x ≤ 256

pub sweep-first : (Done : ℕ → Type 0) (left : Set) {x : ℕ} → ((y : ℕ) → y < 256 → left y ≡ false → Done y) → Next left 256 0 x → Swept Done left x
sweep-first Done left others next = record {
  done = others;
  low = λ y h l. others y h (next.none y (omega arith) l);
  member = next.member;
  below = next.below;
}

-- the block of x leaves: what was done is done still, and so are x and its block
pub sweep-next : (P : Rel) (Done Done' : ℕ → Type 0) (left left' : Set) {x x' : ℕ} → ((y : ℕ) → y < 256 → left' y ≡ left y && not (P x y))
    → ((y : ℕ) → y < 256 → Done y → Done' y) → Done' x → ((y : ℕ) → y < 256 → P x y ≡ true → Done' y) → Swept Done left x → Next left' 256 (x + 1) x'
    → Swept Done' left' x'
sweep-next P Done Done' left left' {x} {x'} less still own block swept next = record {
  done = out;
  low = λ y h l. ⊎_elim (λ (m : y < x). still y h (swept.low y h m))
      (λ (m : x ≤ y). ⊎_elim (λ (e : x ≡ y). subst Done' e own) (λ (m : x < y). out y h (next.none y (omega (arith, m)) l)) (eq-or-lt_of_le m)) (lt-or-ge y x);
  member = next.member;
  below = next.below;
}
  where
    out : (y : ℕ) → y < 256 → left' y ≡ false → Done' y
    out y h e = ⊎_elim (λ (p : P x y ≡ true). block y h p)
        (λ (p : P x y ≡ false). still y h (swept.done y h (sym (less y h ∙ ap (λ (b : Bool). left y && not b) p ∙ and-true (left y)) ∙ e))) (either (P x y))

pub sweep-end : (Done : ℕ → Type 0) (left : Set) (x : ℕ) → 256 ≤ x → Swept Done left x → (y : ℕ) → y < 256 → Done y
sweep-end Done left x end swept y h = swept.low y h (omega (arith, end, h))
