-- The laws of `specs/Bounded.antt` and of Boolean tests.
use Prim.Native.Nat.{ℕ, zero, suc, ◌≤◌, ◌<◌}
use native.Mathlib.Nat.{le-suc_iff, suc_inj, not-suc-le-zero, lt-suc_self, le_step}
use mathlib.Core.Path.{◌≡◌, refl, sym, subst, fun_ext}
use mathlib.Core.Logic.{◌⊎◌, inl, inr, ◌↔◌}
use mathlib.Core.Bool.{Bool, true, false, not, ◌&&◌, ◌||◌, beq}
use lib.Dec.{T, eqb, ltb, eqb_refl, ltb→lt, lt→ltb}
use Rattle.lts.specs.Bounded.{◌⇒◌, any_below, all_below, restrict}

pub and-iff : (a b : Bool) → T (a && b) ↔ (T a × T b)
and-iff true b = (λ t. (tt, t), λ t. t.1)
and-iff false b = (λ t. absurd t, λ t. t.0)

pub not_iff : (a : Bool) → T (not a) ↔ (T a → ⊥)
not_iff true = (λ t _. t, λ f. f tt)
not_iff false = (λ _ t. t, λ _. tt)

pub imp-iff : (a b : Bool) → T (a ⇒ b) ↔ (T a → T b)
imp-iff true b = (λ t _. t, λ f. f tt)
imp-iff false b = (λ _ t. absurd t, λ _. tt)

pub beq-iff : (a b : Bool) → T (beq a b) ↔ (T a ↔ T b)
beq-iff true true = (λ _. (λ t. t, λ t. t), λ _. tt)
beq-iff true false = (λ t. absurd t, λ e. e.0 tt)
beq-iff false true = (λ t. absurd t, λ e. e.1 tt)
beq-iff false false = (λ _. (λ t. t, λ t. t), λ _. tt)

pub dec : (b : Bool) → T b ⊎ (T b → ⊥)
dec true = inl tt
dec false = inr (λ t. t)

pub eq→eqb : (m n : ℕ) → m ≡ n → T (eqb m n)
eq→eqb m n e = subst (λ (x : ℕ). T (eqb m x)) e (eqb_refl m)

-- two tests that pass together are equal
pub test-ext : (a b : Bool) → (T a → T b) → (T b → T a) → a ≡ b
test-ext true true f g = refl
test-ext true false f g = absurd (f tt)
test-ext false true f g = absurd (g tt)
test-ext false false f g = refl

-- below n + 1: below n, or n
pub below_suc : {i n : ℕ} → i < suc n → (i < n) ⊎ (i ≡ n)
below_suc {i} {n} h = go (le-suc_iff.0 h)
  where
    go : (suc i ≤ n) ⊎ (suc i ≡ suc n) → (i < n) ⊎ (i ≡ n)
    go (inl l) = inl l
    go (inr e) = inr (suc_inj e)

pub any-iff : (n : ℕ) (f : ℕ → Bool) → T (any_below n f) ↔ ((i : ℕ) × (i < n) × T (f i))
unfolding any_below
any-iff zero f = (λ t. absurd t, λ s. absurd (not-suc-le-zero s.1))
any-iff (suc n) f = (to (any_below n f) (any-iff n f).0, λ s. from (any_below n f) (any-iff n f).1 s (below_suc s.1))
  where
    to : (b : Bool) → (T b → (i : ℕ) × (i < n) × T (f i)) → T (b || f n) → (i : ℕ) × (i < suc n) × T (f i)
    to true k t = let s = k tt in (s.0, le_step s.1, s.2)
    to false k t = (n, lt-suc_self n, t)

    from : (b : Bool) → ((i : ℕ) × (i < n) × T (f i) → T b) → (s : (i : ℕ) × (i < suc n) × T (f i)) → (s.0 < n) ⊎ (s.0 ≡ n) → T (b || f n)
    from true k s c = tt
    from false k s (inl l) = absurd (k (s.0, l, s.2))
    from false k s (inr e) = subst (λ (i : ℕ). T (f i)) e s.2

pub all-iff : (n : ℕ) (f : ℕ → Bool) → T (all_below n f) ↔ ((i : ℕ) → i < n → T (f i))
unfolding all_below
all-iff zero f = (λ t i h. absurd (not-suc-le-zero h), λ _. tt)
all-iff (suc n) f = (
  λ t i h. to ((all-iff n f).0 ((and-iff (all_below n f) (f n)).0 t).0) ((and-iff (all_below n f) (f n)).0 t).1 i (below_suc h),
  λ k. (and-iff (all_below n f) (f n)).1 ((all-iff n f).1 (λ i h. k i (le_step h)), k n (lt-suc_self n)),
)
  where
    to : ((i : ℕ) → i < n → T (f i)) → T (f n) → (i : ℕ) → (i < n) ⊎ (i ≡ n) → T (f i)
    to k t i (inl l) = k i l
    to k t i (inr e) = subst (λ (j : ℕ). T (f j)) (sym e) t

pub restrict-iff : (n : ℕ) (R : ℕ → ℕ → Bool) (p q : ℕ) → T (restrict n R p q) ↔ ((p < n) × (q < n) × T (R p q))
unfolding restrict
restrict-iff n R p q =
    let e = and-iff (ltb p n && ltb q n) (R p q) in
    let d = and-iff (ltb p n) (ltb q n) in
    (λ t. (ltb→lt p n (d.0 (e.0 t).0).0, ltb→lt q n (d.0 (e.0 t).0).1, (e.0 t).1), λ s. e.1 (d.1 (lt→ltb p n s.0, lt→ltb q n s.1), s.2))

pub or_elim : (a b : Bool) {P : Type 0} → (T a → P) → (T b → P) → T (a || b) → P
or_elim true b f g t = f tt
or_elim false b f g t = g t

pub or_left : (a b : Bool) → T a → T (a || b)
or_left true b t = tt
or_left false b t = absurd t

pub or_right : (a b : Bool) → T b → T (a || b)
or_right true b t = tt
or_right false b t = t

-- on the states such a relation is R itself, and two are equal if they agree there
pub restrict-at : (n : ℕ) (R : ℕ → ℕ → Bool) (p q : ℕ) → p < n → q < n → restrict n R p q ≡ R p q
restrict-at n R p q l m = let e = restrict-iff n R p q in test-ext (restrict n R p q) (R p q) (λ t. (e.0 t).2) (λ t. e.1 (l, m, t))

pub restrict-same : (n : ℕ) (R S : ℕ → ℕ → Bool) → ((p q : ℕ) → p < n → q < n → R p q ≡ S p q) → restrict n R ≡ restrict n S
restrict-same n R S h = fun_ext (λ p. fun_ext (λ q.
    let e = restrict-iff n R p q in
    let d = restrict-iff n S p q in
    test-ext (restrict n R p q) (restrict n S p q)
    (λ t. let c = e.0 t in d.1 (c.0, c.1, subst T (h p q c.0 c.1) c.2))
    (λ t. let c = d.0 t in e.1 (c.0, c.1, subst T (sym (h p q c.0 c.1)) c.2))))
