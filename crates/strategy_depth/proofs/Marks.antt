-- The marks after entries: one more than the least depth of those that have the pair. Assumes nothing.
use Prim.Native.Nat.{ℕ, zero, suc, ◌≤◌, ◌<◌, min, zero-le, suc-le-suc}
use mathlib.Core.Path.{◌≡◌, refl, sym, ◌∙◌, ap}
use mathlib.Core.Logic.{◌⊎◌, inl, inr, ◌↔◌}
use mathlib.Core.Bool.{Bool, true, false, cond, not, ◌&&◌, ◌||◌}
use mathlib.Core.List.{List, [], ◌∷◌}
use native.Mathlib.Omega.{arith}
use native.Mathlib.Nat.{not-suc-le-zero}
use lib.Dec.{T, eqb, eqb→eq, eqb-suc-zero}
use borrow.Author.Tests.{eq-eqb, ne_eqb}
use Rattle.lts.specs.declared.Entry.{Entry}
use Rattle.lts.specs.System.{Lts}
use Rattle.lts.specs.Strategy.{holds}
use Rattle.lts.specs.Depth.{Measured, depths_at, least, least_depth, measure, measured}
use Rattle.lts.proofs.Bounded.{not_iff, test-ext}
use Rattle.lts.proofs.Depth.{Below}
use Rattle.strategy_depth.specs.Marks.{lowered, mark_after}

-- ---- the lower of two marks
module _ (old mark : ℕ) where
  pub lowered-none : old ≡ 0 → mark ≡ lowered old mark
  unfolding lowered
  lowered-none z = sym (ap (λ (b : Bool). cond b mark (min old mark)) (eq-eqb old 0 z))

  pub lowered_some : (old ≡ 0 → ⊥) → min old mark ≡ lowered old mark
  unfolding lowered
  lowered_some h = sym (ap (λ (b : Bool). cond b mark (min old mark)) (ne_eqb old 0 h))

  lowered-some : 0 < mark → 0 < lowered old mark
  unfolding lowered
  lowered-some h = go (eqb old 0) (λ f. pos old f)
    where
      pos : (k : ℕ) → (T (eqb k 0) → ⊥) → 0 < k
      pos zero f = absurd (f tt)
      pos (suc k) f = suc-le-suc zero-le

      go : (b : Bool) → ((T b → ⊥) → 0 < old) → 0 < cond b mark (min old mark)
      go true k = h
      go false k = let l = k (λ t. t) in omega (arith, l, h)

  pub lowered-most : lowered old mark ≤ mark
  unfolding lowered
  lowered-most = go (eqb old 0)
    where
      go : (b : Bool) → cond b mark (min old mark) ≤ mark
      go true = omega arith
      go false = omega arith

-- ---- the marks after entries

-- the mark of a pair whose depths are l
mark : List ℕ → ℕ
mark [] = 0
mark (x ∷ l) = lowered (mark l) (suc x)

after-mark : (ms : List Measured) (p q : ℕ) → mark_after ms p q ≡ mark (depths_at ms p q)
unfolding mark_after depths_at mark
after-mark [] p q = refl
after-mark (m ∷ ms) p q = go (eqb m.p p && eqb m.q q) (after-mark ms p q)
  where
    go : (b : Bool) → mark_after ms p q ≡ mark (depths_at ms p q)
        → cond b (lowered (mark_after ms p q) (suc m.depth)) (mark_after ms p q) ≡ mark (cond b (m.depth ∷ depths_at ms p q) (depths_at ms p q))
    go true h = ap (λ (k : ℕ). lowered k (suc m.depth)) h
    go false h = h

mark-least : (x : ℕ) (l : List ℕ) → mark (x ∷ l) ≡ suc (least (x ∷ l))
unfolding mark lowered least
mark-least x [] = refl
mark-least x (y ∷ l) = ap (λ (k : ℕ). lowered k (suc x)) (mark-least y l) ∙ go (least (y ∷ l))
  where
    go : (k : ℕ) → lowered (suc k) (suc x) ≡ suc (min x k)
    go k = ap (λ (b : Bool). cond b (suc x) (min (suc k) (suc x))) (eqb-suc-zero k) ∙ omega arith

-- of a pair that some entry has it is one more than the least depth
pub after-least : (ms : List Measured) (p q d : ℕ) → Below (depths_at ms p q) d → mark_after ms p q ≡ suc (least_depth ms p q)
unfolding least_depth
after-least ms p q d b = after-mark ms p q ∙ go (depths_at ms p q) b
  where
    go : (l : List ℕ) → Below l d → mark l ≡ suc (least l)
    go [] b = absurd b
    go (x ∷ l) b = mark-least x l

-- a pair has a mark exactly if some entry holds it
after-from : (L : Lts) (ms : List Measured) (es : List Entry) (p q : ℕ)
    → (0 < mark_after (measured L ms es) p q) ↔ (T (holds es p q) ⊎ (0 < mark_after ms p q))
unfolding measured mark_after measure holds
after-from L ms [] p q = (inr, λ s. go s)
  where
    go : ⊥ ⊎ (0 < mark_after ms p q) → 0 < mark_after ms p q
    go (inl t) = absurd t
    go (inr h) = h
after-from L ms (e ∷ es) p q = next (eqb e.p p && eqb e.q q) (holds es p q) (after-from L (measure L ms e ∷ ms) es p q)
  where
    next : (b c : Bool) {X : Type 0} → X ↔ (T c ⊎ (0 < cond b (lowered (mark_after ms p q) (suc (measure L ms e).depth)) (mark_after ms p q)))
        → X ↔ (T (b || c) ⊎ (0 < mark_after ms p q))
    next true c ih = (λ _. inl tt, λ _. ih.1 (inr (lowered-some (mark_after ms p q) (suc (measure L ms e).depth) (suc-le-suc zero-le))))
    next false c ih = ih

pub after_holds : (L : Lts) (es : List Entry) (p q : ℕ) → not (eqb (mark_after (measured L [] es) p q) 0) ≡ holds es p q
unfolding mark_after
after_holds L es p q =
    let e = after-from L [] es p q in
    test-ext _ _ (λ t. go (e.0 (some (mark_after (measured L [] es) p q) t))) (λ t. other (mark_after (measured L [] es) p q) (e.1 (inl t)))
  where
    some : (k : ℕ) → T (not (eqb k 0)) → 0 < k
    some zero t = absurd t
    some (suc k) t = suc-le-suc zero-le

    other : (k : ℕ) → 0 < k → T (not (eqb k 0))
    other zero h = absurd (not-suc-le-zero h)
    other (suc k) h = (not_iff (eqb (suc k) 0)).1 (λ t. omega (arith, eqb→eq (suc k) 0 t))

    go : T (holds es p q) ⊎ (0 < 0) → T (holds es p q)
    go (inl t) = t
    go (inr h) = absurd (not-suc-le-zero h)
