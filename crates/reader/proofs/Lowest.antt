-- A loop that seeks the lowest number that passes: none below i does. And the lowest number that fails.
use Prim.Native.Nat.{ℕ, ◌+◌, ◌≤◌, ◌<◌}
use mathlib.Core.Path.{◌≡◌, sym, ap, ◌∙◌}
use mathlib.Core.Bool.{Bool, true, false, not}
use mathlib.Core.Logic.{⊎_elim}
use native.Mathlib.Omega.{arith}
use native.Mathlib.Nat.{not-suc-le-zero}
use borrow.Author.Tests.{eqb-true, eqb-false, eq-eqb, not-true, not-false}
use lib.Dec.{eqb}
use Rattle.lts.specs.Bounded.{all_below, lowest}
use Rattle.lts.proofs.Below.{lt-or-ge, bool_iff, all_of, all-at, lowest-le, lowest-at, lowest-before, lowest-is, lowest-none}

pub record NoneBelow (f : ℕ → Bool) (i : ℕ) : Type 0 where
  pub fails : (x : ℕ) → x < i → f x ≡ false

pub none-start : (f : ℕ → Bool) → NoneBelow f 0
none-start f = record { fails = λ x l. absurd (not-suc-le-zero l) }

module _ {f : ℕ → Bool} where
  pub none_more : (i : ℕ) → NoneBelow f i → f i ≡ false → NoneBelow f (i + 1)
  none_more i n e = record { fails = λ x l. ⊎_elim (λ (k : x < i). n.fails x k) (λ (k : i ≤ x). let q : x ≡ i = omega arith in ap f q ∙ e) (lt-or-ge x i) }

  pub none_found : (k i : ℕ) → NoneBelow f i → i < k → f i ≡ true → i ≡ lowest k f
  none_found k i n l e = lowest-is k f i l e n.fails

  pub none_end : (k i : ℕ) → NoneBelow f i → k ≤ i → k ≡ lowest k f
  none_end k i n l = lowest-none k f (λ x h. n.fails x (omega arith))

pub lowest-most : (k : ℕ) (f : ℕ → Bool) {r : ℕ} → r ≡ lowest k f → r ≤ k
lowest-most k f e = rw e (lowest-le k f)

-- none below k fails exactly where all pass
pub lowest-all : (k : ℕ) (f : ℕ → Bool) → eqb (lowest k (λ i. not (f i))) k ≡ all_below k f
lowest-all k f =
    bool_iff
    (λ e.
    let q = eqb-true (lowest k (λ i. not (f i))) k e in
    all_of k f (λ i l. not-false (f i) (lowest-before k (λ i. not (f i)) i (omega (arith, q, l)))))
    (λ a. eq-eqb _ _ (sym (lowest-none k (λ i. not (f i)) (λ i l. ap not (all-at k f a i l)))))

-- where not all pass, one that fails
pub some-fails : (k : ℕ) (f : ℕ → Bool) → all_below k f ≡ false → (i : ℕ) × (i < k) × (f i ≡ false)
some-fails k f e =
    let g : ℕ → Bool = λ i. not (f i) in
    let n = eqb-false (lowest k g) k (lowest-all k f ∙ e) in
    let l : lowest k g < k = omega (arith, n, lowest-le k g) in
    (lowest k g, l, not-true _ (lowest-at k g l))
