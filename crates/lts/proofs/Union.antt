-- The disjoint union is well formed, each part of it is the system that it came from, and it has as many transitions as both.
use Prim.Native.Nat.{ℕ, suc, ◌+◌, ◌-◌, ◌≤◌, ◌<◌, max}
use native.Mathlib.Omega.{arith}
use native.Mathlib.Nat.{zero-add, add-sub_cancel_left}
use mathlib.Core.Path.{◌≡◌, refl, sym, ap₂, ◌∙◌}
use mathlib.Core.Logic.{◌↔◌}
use mathlib.Core.Bool.{Bool, true, false, cond, not, ◌&&◌}
use lib.Dec.{T, leb, ltb, leb→le, nltb→le}
use lib.ListN.{length}
use borrow.Author.Tests.{lt-ltb, le-ltb, le-leb, lt-leb}
use Rattle.lts.specs.Bounded.{count_below}
use Rattle.lts.specs.System.{Lts, WellFormed}
use Rattle.lts.specs.Transitions.{transitions_of, transitions}
use Rattle.lts.specs.Union.{disjoint_union}
use Rattle.lts.proofs.Bounded.{and-iff}
use Rattle.lts.proofs.Below.{sum-cong, sum-add, sum-zero, sum-shorter}
use Rattle.lts.proofs.Transitions.{of-sum, all-sum}

module _ (L M : Lts) where
  -- a transition of the union is one of the first, or one of the second
  side : (p a t : ℕ) (P : Type 0) → (T (L.transition p a t) → P)
      → (L.states ≤ p → L.states ≤ t → T (M.transition (p - L.states) a (t - L.states)) → P) → T ((disjoint_union L M).transition p a t) → P
  unfolding disjoint_union
  side p a t P l r m = go (ltb p n) (λ u. nltb→le p n u) m
    where
      n : ℕ
      n = L.states

      go : (b : Bool) → (T (not b) → n ≤ p) → T (cond b (L.transition p a t) (leb n t && M.transition (p - n) a (t - n))) → P
      go true h m = l m
      go false h m = let c = (and-iff (leb n t) (M.transition (p - n) a (t - n))).0 m in r (h tt) (leb→le n t c.0) c.1

  pub union-formed : WellFormed L → WellFormed M → WellFormed (disjoint_union L M)
  unfolding disjoint_union
  union-formed f g = record {
    source = λ p a t.
        side p a t (p < n + k) (λ u. let l = f.source p a t u in omega (arith, l)) (λ h l u. let r = g.source (p - n) a (t - n) u in omega (arith, h, r));
    action = λ p a t.
        side p a t ((1 ≤ a) × (a ≤ max L.actions M.actions)) (λ u. let l = f.action p a t u in omega (arith, l))
        (λ h l u. let r = g.action (p - n) a (t - n) u in omega (arith, r));
    target = λ p a t.
        side p a t (t < n + k) (λ u. let l = f.target p a t u in omega (arith, l)) (λ h l u. let r = g.target (p - n) a (t - n) u in omega (arith, l, r));
  }
    where
      n : ℕ
      n = L.states

      k : ℕ
      k = M.states

  -- ---- the first part of it, and the second

  pub union_left : (p a t : ℕ) → p < L.states → (disjoint_union L M).transition p a t ≡ L.transition p a t
  unfolding disjoint_union
  union_left p a t l = rw (lt-ltb p L.states l)

  pub terminating-left : (p : ℕ) → p < L.states → (disjoint_union L M).terminating p ≡ L.terminating p
  unfolding disjoint_union
  terminating-left p l = rw (lt-ltb p L.states l)

  pub union_right : (p a t : ℕ) → T ((disjoint_union L M).transition (L.states + p) a t) ↔ ((r : ℕ) × T (M.transition p a r) × (t ≡ L.states + r))
  unfolding disjoint_union
  union_right p a t =
      rw (le-ltb (L.states + p) L.states (omega arith), add-sub_cancel_left) (
        λ u. let (l, v) = (and-iff (leb L.states t) (M.transition p a (t - L.states))).0 u in
            let h = leb→le L.states t l in
            (t - L.states, v, omega (arith, h)),
        λ (r, v, e). rw e (rw (le-leb L.states (L.states + r) (omega arith), add-sub_cancel_left) v),
      )

  pub terminating-right : (p : ℕ) → (disjoint_union L M).terminating (L.states + p) ≡ M.terminating p
  unfolding disjoint_union
  terminating-right p = rw (le-ltb (L.states + p) L.states (omega arith), add-sub_cancel_left)

-- no number outside its states is terminating, if none is outside the second's
pub union-ends : (L M : Lts) → ((p : ℕ) → M.states ≤ p → M.terminating p ≡ false)
    → (p : ℕ) → L.states + M.states ≤ p → (disjoint_union L M).terminating p ≡ false
unfolding disjoint_union
union-ends L M ends p l = rw (le-ltb p L.states (omega arith)) (ends (p - L.states) (omega arith))

-- ---- its transitions, counted

-- a test that fails counts 0
not-one : (b : Bool) → (T b → ⊥) → ◌≡◌ {A = ℕ} (cond b 1 0) 0
not-one true h = absurd (h tt)
not-one false h = refl

-- a well-formed system has no transition by an action above m
no-action : {L : Lts} → WellFormed L → (p a : ℕ) → L.actions ≤ a → count_below L.states (L.transition p (suc a)) ≡ 0
unfolding count_below
no-action {L} wf p a l = sum-zero L.states _ (λ t k. not-one (L.transition p (suc a) t) (λ u. let z = (wf.action p (suc a) t u).1 in omega (arith, z, l)))

module _ {L M : Lts} (f : WellFormed L) (g : WellFormed M) where
  abbrev U : Lts
  U = disjoint_union L M

  -- the rows of the first, and of the second
  first-row : (p : ℕ) → p < L.states → length (transitions_of U p) ≡ length (transitions_of L p)
  unfolding disjoint_union count_below
  first-row p l =
      of-sum U p ∙ sum-cong U.actions _ _ (λ a k. by (suc a))
      ∙ sum-shorter L.actions U.actions _ (omega arith) (λ a k h. no-action f p a k) ∙ sym (of-sum L p)
    where
      by : (a : ℕ) → count_below (L.states + M.states) (U.transition p a) ≡ count_below L.states (L.transition p a)
      by a =
          rw (lt-ltb p L.states l)
          (sum-shorter L.states (L.states + M.states) _ (omega arith)
          (λ t k h. not-one (L.transition p a t) (λ u. let z = f.target p a t u in omega (arith, z, k))))

  second-row : (p : ℕ) → p < M.states → length (transitions_of U (L.states + p)) ≡ length (transitions_of M p)
  unfolding disjoint_union count_below
  second-row p l =
      of-sum U (L.states + p) ∙ sum-cong U.actions _ _ (λ a k. by (suc a))
      ∙ sum-shorter M.actions U.actions _ (omega arith) (λ a k h. no-action g p a k) ∙ sym (of-sum M p)
    where
      back : (x : ℕ) → L.states + x - L.states ≡ x
      back x = omega arith

      by : (a : ℕ) → count_below (L.states + M.states) (U.transition (L.states + p) a) ≡ count_below M.states (M.transition p a)
      by a =
          rw (le-ltb (L.states + p) L.states (omega arith), back p)
          (sum-add L.states M.states _
          ∙ ap₂ (λ (x y : ℕ). x + y) (sum-zero L.states _ (λ t k. rw (lt-leb L.states t k)))
          (sum-cong M.states _ _ (λ t k. rw (le-leb L.states (L.states + t) (omega arith), back t))) ∙ zero-add _)

  pub union-count : length (transitions (disjoint_union L M)) ≡ length (transitions L) + length (transitions M)
  unfolding disjoint_union
  union-count =
      all-sum U ∙ sum-add L.states M.states _
      ∙ ap₂ (λ (x y : ℕ). x + y) (sum-cong L.states _ _ first-row ∙ sym (all-sum L)) (sum-cong M.states _ _ second-row ∙ sym (all-sum M))
