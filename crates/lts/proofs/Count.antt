-- Counts, lists of passing numbers and the lowest passing number.
use Prim.Native.Nat.{ℕ, zero, suc, ◌+◌, ◌*◌, ◌≤◌, ◌<◌, max, zero-le, suc-le-suc}
use native.Mathlib.Nat.{eq-or-lt_of_le, le_refl, le_trans, le_step, lt-suc_self, not-suc-le-zero, le_of_suc-le-suc, zero-lt-suc, add-le-add}
use native.Mathlib.Omega.{arith}
use native.Mathlib.Decide.{ℕ_discrete, dec_le}
use mathlib.Core.Path.{◌≡◌, refl, sym, ◌∙◌, ap, subst, fun_ext}
use mathlib.Core.Logic.{◌⊎◌, inl, inr, ⊎_elim}
use mathlib.Core.Bool.{Bool, true, false, cond, ◌||◌}
use mathlib.Core.List.{List, [], ◌∷◌, ◌++◌, append-nil}
use lib.Dec.{T}
use lib.ListN.{length, get_or, length-append}
use Rattle.lts.specs.Bounded.{any_below, sum_below, largest_below, count_below, passing, concat_below, lowest}
use Rattle.lts.proofs.Bounded.{below_suc}

pub sum-le : (n : ℕ) (f g : ℕ → ℕ) → ((i : ℕ) → i < n → f i ≤ g i) → sum_below n f ≤ sum_below n g
unfolding sum_below
sum-le zero f g h = le_refl zero
sum-le (suc n) f g h = add-le-add (sum-le n f g (λ i l. h i (le_step l))) (h n (lt-suc_self n))

pub sum_lt : (n : ℕ) (f g : ℕ → ℕ) → ((i : ℕ) → i < n → f i ≤ g i) → (j : ℕ) → j < n → f j < g j → sum_below n f < sum_below n g
unfolding sum_below
sum_lt zero f g h j l s = absurd (not-suc-le-zero l)
sum_lt (suc n) f g h j l s = go (λ l'. sum_lt n f g (λ i m. h i (le_step m)) j l' s) (below_suc l)
  where
    go : (j < n → sum_below n f < sum_below n g) → (j < n) ⊎ (j ≡ n) → sum_below n f + f n < sum_below n g + g n
    go ih (inl m) = omega (arith, ih m, h n (lt-suc_self n))
    go ih (inr e) =
        let t = sum-le n f g (λ i m. h i (le_step m)) in
        let u = subst (λ (k : ℕ). f k < g k) e s in
        omega (arith, t, u)

pub sum-most : (n c : ℕ) (f : ℕ → ℕ) → ((i : ℕ) → i < n → f i ≤ c) → sum_below n f ≤ n * c
unfolding sum_below
sum-most zero c f h = zero-le
sum-most (suc n) c f h = let t = sum-most n c f (λ i l. h i (le_step l)) in omega (arith, t, h n (lt-suc_self n))

pub sum-two : (n : ℕ) (f g h : ℕ → ℕ) → ((i : ℕ) → i < n → f i ≤ g i + h i) → sum_below n f ≤ sum_below n g + sum_below n h
unfolding sum_below
sum-two zero f g h e = zero-le
sum-two (suc n) f g h e = omega (arith, sum-two n f g h (λ i l. e i (le_step l)), e n (lt-suc_self n))

-- no term but that of x is above 0
pub sum-single : (n x c : ℕ) (f : ℕ → ℕ) → f x ≤ c → ((i : ℕ) → (i ≡ x → ⊥) → f i ≡ 0) → sum_below n f ≤ c
unfolding sum_below
sum-single zero x c f h e = zero-le
sum-single (suc n) x c f h e = go (ℕ_discrete n x) (sum-single n x c f h e)
  where
    go : Dec (n ≡ x) → sum_below n f ≤ c → sum_below n f + f n ≤ c
    go (yes d) ih =
        let z = sum-most n 0 f (λ i l. let w = e i (λ q. omega arith) in omega (arith, w)) in
        let u : f n ≤ c = rw d h in
        omega (arith, z, u)
    go (no d) ih = omega (arith, ih, e n d)

pub sum-least : (n : ℕ) (f : ℕ → ℕ) → ((i : ℕ) → i < n → 1 ≤ f i) → n ≤ sum_below n f
unfolding sum_below
sum-least zero f h = zero-le
sum-least (suc n) f h = let t = sum-least n f (λ i l. h i (le_step l)) in omega (arith, t, h n (lt-suc_self n))

pub sum-cong : (n : ℕ) (f g : ℕ → ℕ) → ((i : ℕ) → f i ≡ g i) → sum_below n f ≡ sum_below n g
sum-cong n f g h = ap (sum_below n) (fun_ext h)

-- the largest is at least each, and at most any bound of all
pub largest-least : (n : ℕ) (f : ℕ → ℕ) (i : ℕ) → i < n → f i ≤ largest_below n f
unfolding largest_below
largest-least zero f i l = absurd (not-suc-le-zero l)
largest-least (suc n) f i l = go (λ m. largest-least n f i m) (below_suc l)
  where
    go : (i < n → f i ≤ largest_below n f) → (i < n) ⊎ (i ≡ n) → f i ≤ max (largest_below n f) (f n)
    go ih (inl m) = omega (arith, ih m)
    go ih (inr e) = omega (arith, ap f e)

pub largest-most : (n c : ℕ) (f : ℕ → ℕ) → ((i : ℕ) → i < n → f i ≤ c) → largest_below n f ≤ c
unfolding largest_below
largest-most zero c f h = zero-le
largest-most (suc n) c f h =
    let t = largest-most n c f (λ i l. h i (le_step l)) in
    let u = h n (lt-suc_self n) in
    omega (arith, t, u)

-- the largest over those that pass is 0 or that of one; so it is that of one, where one passes
pub largest-some : (n : ℕ) (passes : ℕ → Bool) (f : ℕ → ℕ)
    → (largest_below n (λ x. cond (passes x) (f x) 0) ≡ 0) ⊎ ((j : ℕ) × T (passes j) × (f j ≡ largest_below n (λ x. cond (passes x) (f x) 0)))
unfolding largest_below
largest-some zero passes f = inl refl
largest-some (suc n) passes f = go (passes n) (λ u. u) (dec_le top (f n)) (largest-some n passes f)
  where
    top : ℕ
    top = largest_below n (λ x. cond (passes x) (f x) 0)

    go : (b : Bool) → (T b → T (passes n)) → Dec (top ≤ f n) → (top ≡ 0) ⊎ ((j : ℕ) × T (passes j) × (f j ≡ top))
        → (max top (cond b (f n) 0) ≡ 0) ⊎ ((j : ℕ) × T (passes j) × (f j ≡ max top (cond b (f n) 0)))
    go false u d (inl z) = inl (omega (arith, z))
    go false u d (inr j) = inr (j.0, j.1, omega (arith, j.2))
    go true u (yes h) s = inr (n, u tt, omega (arith, h))
    go true u (no h) (inl z) = absurd (h (omega (arith, z)))
    go true u (no h) (inr j) = inr (j.0, j.1, omega (arith, h, j.2))

pub largest-found : (n : ℕ) (passes : ℕ → Bool) (f : ℕ → ℕ) (i : ℕ) → i < n → T (passes i)
    → (j : ℕ) × T (passes j) × (f j ≡ largest_below n (λ x. cond (passes x) (f x) 0))
largest-found n passes f i l t = go (largest-some n passes f) (own (passes i) t)
  where
    own : (b : Bool) → T b → cond b (f i) 0 ≡ f i
    own true u = refl
    own false u = absurd u

    go : (largest_below n (λ x. cond (passes x) (f x) 0) ≡ 0) ⊎ ((j : ℕ) × T (passes j) × (f j ≡ largest_below n (λ x. cond (passes x) (f x) 0)))
        → cond (passes i) (f i) 0 ≡ f i → (j : ℕ) × T (passes j) × (f j ≡ largest_below n (λ x. cond (passes x) (f x) 0))
    go (inr j) e = j
    go (inl z) e = (i, t, omega (arith, z, e, largest-least n (λ x. cond (passes x) (f x) 0) i l))

-- the length of lists one after the other
pub length-concat {ℓ} : {A : Type ℓ} (n : ℕ) (f : ℕ → List A) → length (concat_below n f) ≡ sum_below n (λ i. length (f i))
unfolding concat_below sum_below
length-concat zero f = refl
length-concat (suc n) f = length-append (concat_below n f) (f n) ∙ ap (λ (k : ℕ). k + length (f n)) (length-concat n f)

one-le : (a b : Bool) → (T a → T b) → cond a 1 0 ≤ cond b 1 0
one-le true true h = le_refl 1
one-le true false h = absurd (h tt)
one-le false b h = zero-le

one-lt : (a b : Bool) → (T a → ⊥) → T b → cond a 1 0 < cond b 1 0
one-lt true b f t = absurd (f tt)
one-lt false true f t = le_refl 1
one-lt false false f t = absurd t

pub one-most : (a : Bool) → cond a 1 0 ≤ 1
one-most true = le_refl 1
one-most false = zero-le

pub one-or : (a b : Bool) → cond (a || b) 1 0 ≤ cond a 1 0 + cond b 1 0
one-or true b = omega arith
one-or false b = omega arith

one-least : (a : Bool) → T a → 1 ≤ cond a 1 0
one-least true t = le_refl 1
one-least false t = absurd t

pub count-le : (n : ℕ) (f g : ℕ → Bool) → ((i : ℕ) → i < n → T (f i) → T (g i)) → count_below n f ≤ count_below n g
unfolding count_below
count-le n f g h = sum-le n (λ i. cond (f i) 1 0) (λ i. cond (g i) 1 0) (λ i l. one-le (f i) (g i) (h i l))

pub count-lt : (n : ℕ) (f g : ℕ → Bool) → ((i : ℕ) → i < n → T (f i) → T (g i)) → (j : ℕ) → j < n → (T (f j) → ⊥) → T (g j) → count_below n f < count_below n g
unfolding count_below
count-lt n f g h j l u t = sum_lt n (λ i. cond (f i) 1 0) (λ i. cond (g i) 1 0) (λ i l. one-le (f i) (g i) (h i l)) j l (one-lt (f j) (g j) u t)

pub count_most : (n : ℕ) (f : ℕ → Bool) → count_below n f ≤ n
unfolding count_below
count_most n f = let t = sum-most n 1 (λ i. cond (f i) 1 0) (λ i _. one-most (f i)) in omega (arith, t)

pub count-least : (n : ℕ) (f : ℕ → Bool) (i : ℕ) → i < n → T (f i) → 1 ≤ count_below n f
unfolding count_below
count-least n f i l t =
    le_trans (suc-le-suc zero-le) (sum_lt n (λ _. 0) (λ i. cond (f i) 1 0) (λ _ _. zero-le) i l (one-least (f i) t))

-- every element of a list has P
abbrev Every : (ℕ → Type 0) → List ℕ → Type 0
Every P [] = Unit {0}
Every P (x ∷ xs) = P x × Every P xs

every_append : (P : ℕ → Type 0) (l r : List ℕ) → Every P l → Every P r → Every P (l ++ r)
every_append P [] r e u = u
every_append P (x ∷ l) r e u = (e.0, every_append P l r e.1 u)

every_map : (P Q : ℕ → Type 0) → ((x : ℕ) → P x → Q x) → (l : List ℕ) → Every P l → Every Q l
every_map P Q f [] e = tt
every_map P Q f (x ∷ l) e = (f x e.0, every_map P Q f l e.1)

every-at : (P : ℕ → Type 0) (l : List ℕ) → Every P l → (i : ℕ) → i < length l → P (get_or l i zero)
every-at P [] e i h = absurd (not-suc-le-zero h)
every-at P (x ∷ l) e zero h = e.0
every-at P (x ∷ l) e (suc i) h = every-at P l e.1 i (le_of_suc-le-suc h)

passing-every : (n : ℕ) (f : ℕ → Bool) → Every (λ i. (i < n) × T (f i)) (passing n f)
unfolding passing
passing-every zero f = tt
passing-every (suc n) f =
    every_append (λ i. (i < suc n) × T (f i)) (passing n f) (cond (f n) (n ∷ []) [])
    (every_map (λ i. (i < n) × T (f i)) (λ i. (i < suc n) × T (f i)) (λ x p. (le_step p.0, p.1)) (passing n f) (passing-every n f)) (last (f n) (λ t. t))
  where
    last : (b : Bool) → (T b → T (f n)) → Every (λ i. (i < suc n) × T (f i)) (cond b (n ∷ []) [])
    last true k = ((lt-suc_self n, k tt), tt)
    last false k = tt

pub passing-at : (n : ℕ) (f : ℕ → Bool) (i : ℕ) → i < length (passing n f) → (get_or (passing n f) i zero < n) × T (f (get_or (passing n f) i zero))
passing-at n f i h = every-at (λ i. (i < n) × T (f i)) (passing n f) (passing-every n f) i h

pub passing-some : (n : ℕ) (f : ℕ → Bool) → T (any_below n f) → 0 < length (passing n f)
unfolding any_below passing
passing-some zero f t = absurd t
passing-some (suc n) f t =
    subst (λ (k : ℕ). 0 < k) (sym (length-append (passing n f) (cond (f n) (n ∷ []) []))) (go (any_below n f) (f n) (passing-some n f) t)
  where
    go : (a b : Bool) → (T a → 0 < length (passing n f)) → T (a || b) → 0 < length (passing n f) + length (cond b (n ∷ []) [])
    go true b ih t = omega (arith, ih tt)
    go false true ih t = omega arith
    go false false ih t = absurd t

-- the lowest passing number passes, and none below it does
pub lowest-passes : (n : ℕ) (f : ℕ → Bool) (i : ℕ) → i < n → T (f i) → (lowest n f < n) × T (f (lowest n f))
unfolding lowest
lowest-passes zero f i h t = absurd (not-suc-le-zero h)
lowest-passes (suc n) f zero h t = go (f zero) t (λ u. u)
  where
    go : (b : Bool) → T b → (T b → T (f zero)) → (cond b zero (suc (lowest n (λ i. f (suc i)))) < suc n) × T (f (cond b zero (suc (lowest n (λ i. f (suc i))))))
    go true t k = (zero-lt-suc n, k tt)
    go false t k = absurd t
lowest-passes (suc n) f (suc i) h t = go (f zero) (λ u. u) (lowest-passes n (λ i. f (suc i)) i (le_of_suc-le-suc h) t)
  where
    go : (b : Bool) → (T b → T (f zero)) → (lowest n (λ i. f (suc i)) < n) × T (f (suc (lowest n (λ i. f (suc i)))))
        → (cond b zero (suc (lowest n (λ i. f (suc i)))) < suc n) × T (f (cond b zero (suc (lowest n (λ i. f (suc i))))))
    go true k r = (zero-lt-suc n, k tt)
    go false k r = (suc-le-suc r.0, r.1)

pub lowest-least : (n : ℕ) (f : ℕ → Bool) (i : ℕ) → T (f i) → lowest n f ≤ i
unfolding lowest
lowest-least zero f i t = zero-le
lowest-least (suc n) f zero t = go (f zero) t
  where
    go : (b : Bool) → T b → cond b zero (suc (lowest n (λ i. f (suc i)))) ≤ zero
    go true t = zero-le
    go false t = absurd t
lowest-least (suc n) f (suc i) t = go (f zero) (lowest-least n (λ i. f (suc i)) i t)
  where
    go : (b : Bool) → lowest n (λ i. f (suc i)) ≤ i → cond b zero (suc (lowest n (λ i. f (suc i)))) ≤ suc i
    go true l = zero-le
    go false l = suc-le-suc l

-- from n on nothing passes
pub passing-shorter : (n m : ℕ) (f : ℕ → Bool) → n ≤ m → ((i : ℕ) → n ≤ i → i < m → f i ≡ false) → passing m f ≡ passing n f
unfolding passing
passing-shorter n zero f h none = let e : 0 ≡ n = omega arith in ap (λ (k : ℕ). passing k f) e
passing-shorter n (suc m) f h none =
    ⊎_elim (λ (e : n ≡ suc m). ap (λ (k : ℕ). passing k f) (sym e))
    (λ (l : n < suc m). ap (λ (b : Bool). passing m f ++ cond b (m ∷ []) []) (none m (le_of_suc-le-suc l) (le_refl (suc m))) ∙ append-nil (passing m f)
    ∙ passing-shorter n m f (le_of_suc-le-suc l) (λ i a b. none i a (le_step b)))
    (eq-or-lt_of_le h)
