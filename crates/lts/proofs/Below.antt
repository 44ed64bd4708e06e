-- Laws of truth values and of the tests, sums, lists and lowest numbers below a bound. Assumes nothing.
use mathlib.Core.Path.{◌≡◌, refl, sym, ap, ap₂, ◌∙◌, fun_ext}
use mathlib.Core.Bool.{Bool, true, false, cond, not, ◌&&◌, ◌||◌, and-true}
use mathlib.Core.List.{List, [], ◌∷◌, ◌++◌, append-nil}
use mathlib.Core.Logic.{◌⊎◌, inl, inr, ⊎_elim}
use Prim.Native.Nat.{ℕ, zero, suc, ◌+◌, ◌-◌, ◌*◌, ◌≤◌, ◌<◌, zero-le, suc-le-suc}
use native.Mathlib.Nat.{not-suc-le-zero, le_of_suc-le-suc, zero-add, add-zero, add-suc, suc-add, add_assoc, zero-mul, suc-mul, le_refl, eq-or-lt_of_le, zero-lt-suc}
use native.Mathlib.Numerals.{add-one}
use native.Mathlib.Omega.{arith}
use lib.Dec.{T, eqb}
use native.Mathlib.Decide.{ℕ_discrete}
use borrow.Author.Tests.{eq-eqb, ne_eqb}
use lib.ListN.{length, drop_of_length-le, get_or, set, drop}
use lib.Seq.{ext_get_or}
use Rattle.lts.specs.Bounded.{any_below, all_below, sum_below, list_below, lowest}
use Rattle.lts.proofs.Bounded.{any-iff, below_suc}

pub lt-or-ge : (a b : ℕ) → (a < b) ⊎ (b ≤ a)
lt-or-ge a zero = inr zero-le
lt-or-ge zero (suc b) = inl (suc-le-suc zero-le)
lt-or-ge (suc a) (suc b) = ⊎_elim (λ h. inl (suc-le-suc h)) (λ h. inr (suc-le-suc h)) (lt-or-ge a b)

-- ---- truth values

pub clash : {b : Bool} → b ≡ true → b ≡ false → ⊥
clash p q = let z : ◌≡◌ {A = ℕ} 1 0 = ap (λ (b : Bool). cond b 1 0) (sym p ∙ q) in omega arith

pub either : (b : Bool) → (b ≡ true) ⊎ (b ≡ false)
either true = inl refl
either false = inr refl

pub bool_iff : {a b : Bool} → (a ≡ true → b ≡ true) → (b ≡ true → a ≡ true) → a ≡ b
bool_iff {a} {b} f g = ⊎_elim (λ p. p ∙ sym (f p)) (λ p. ⊎_elim (λ q. g q ∙ sym q) (λ q. p ∙ sym q) (either b)) (either a)

pub T_true : (b : Bool) → T b → b ≡ true
T_true true t = refl
T_true false t = absurd t

pub true-T : (b : Bool) → b ≡ true → T b
true-T true e = tt
true-T false e = absurd (clash e refl)

pub and-fst : (a b : Bool) → a && b ≡ true → a ≡ true
and-fst true b e = refl
and-fst false b e = e

pub and-snd : (a b : Bool) → a && b ≡ true → b ≡ true
and-snd true b e = e
and-snd false b e = absurd (clash e refl)

pub neither : (a b : Bool) → a || b ≡ false → (a ≡ false) × (b ≡ false)
neither false b e = (refl, e)
neither true b e = absurd (clash refl e)

pub regroup : (a b c : Bool) → (b || (a || c)) ≡ ((a || b) || c)
regroup true true c = refl
regroup true false c = refl
regroup false true c = refl
regroup false false c = refl

-- a test that either way compares the same numbers
pub eqb-sym : (x y : ℕ) → eqb x y ≡ eqb y x
eqb-sym x y = go (ℕ_discrete x y)
  where
    go : Dec (x ≡ y) → eqb x y ≡ eqb y x
    go (yes e) = eq-eqb x y e ∙ sym (eq-eqb y x (sym e))
    go (no n) = ne_eqb x y n ∙ sym (ne_eqb y x (λ e. n (sym e)))

-- ---- every number below a bound

pub all_of : (k : ℕ) (f : ℕ → Bool) → ((i : ℕ) → i < k → f i ≡ true) → all_below k f ≡ true
unfolding all_below
all_of zero f e = refl
all_of (suc k) f e = ap₂ ◌&&◌ (all_of k f (λ i h. e i (omega arith))) (e k (le_refl (suc k)))

pub all-at : (k : ℕ) (f : ℕ → Bool) → all_below k f ≡ true → (i : ℕ) → i < k → f i ≡ true
unfolding all_below
all-at zero f e i h = absurd (not-suc-le-zero h)
all-at (suc k) f e i h =
    ⊎_elim (λ p. ap f p ∙ and-snd (all_below k f) (f k) e) (λ l. all-at k f (and-fst (all_below k f) (f k) e) i l) (eq-or-lt_of_le (le_of_suc-le-suc h))

pub all_yes : (k : ℕ) (f : ℕ → Bool) → ((i : ℕ) → i < k → f i ≡ true) → true ≡ all_below k f
all_yes k f e = sym (all_of k f e)

-- one that fails
pub all-not : (k : ℕ) (f : ℕ → Bool) (i : ℕ) → i < k → f i ≡ false → false ≡ all_below k f
all-not k f i h e = ⊎_elim (λ p. absurd (clash (all-at k f p i h) e)) sym (either (all_below k f))

-- where not all pass, one fails
pub all-fails : (k : ℕ) (f : ℕ → Bool) → all_below k f ≡ false → (i : ℕ) × (i < k) × (f i ≡ false)
unfolding all_below
all-fails zero f e = absurd (clash refl e)
all-fails (suc k) f e = ⊎_elim (λ (t : f k ≡ true).
    let (i, l, n) = all-fails k f (sym (rw t (and-true (all_below k f))) ∙ e) in (i, omega (arith, l), n))
    (λ (t : f k ≡ false). (k, omega arith, t)) (either (f k))

pub all-cong : (k : ℕ) (f g : ℕ → Bool) → ((i : ℕ) → i < k → f i ≡ g i) → all_below k f ≡ all_below k g
all-cong k f g e = bool_iff (λ p. all_of k g (λ i h. sym (e i h) ∙ all-at k f p i h)) (λ p. all_of k f (λ i h. e i h ∙ all-at k g p i h))

-- from n on there is nothing to test
pub all-shorter : (n m : ℕ) (f : ℕ → Bool) → n ≤ m → ((i : ℕ) → n ≤ i → i < m → f i ≡ true) → all_below m f ≡ all_below n f
all-shorter n m f h rest =
    bool_iff (λ p. all_of n f (λ i l. all-at m f p i (omega arith)))
    (λ p. all_of m f (λ i l. ⊎_elim (λ (k : i < n). all-at n f p i k) (λ (k : n ≤ i). rest i k l) (lt-or-ge i n)))

-- ---- some number below a bound

pub any-yes : (k : ℕ) (f : ℕ → Bool) (i : ℕ) → i < k → f i ≡ true → true ≡ any_below k f
any-yes k f i h e = sym (T_true (any_below k f) ((any-iff k f).1 (i, h, true-T (f i) e)))

-- one that passes
pub any_some : (k : ℕ) (f : ℕ → Bool) → any_below k f ≡ true → (i : ℕ) × (i < k) × (f i ≡ true)
any_some k f p = let s = (any-iff k f).0 (true-T (any_below k f) p) in (s.0, s.1, T_true (f s.0) s.2)

pub any-no : (k : ℕ) (f : ℕ → Bool) → ((i : ℕ) → i < k → f i ≡ false) → false ≡ any_below k f
any-no k f none = ⊎_elim (λ p. let s = any_some k f p in absurd (clash s.2 (none s.0 s.1))) sym (either (any_below k f))

pub any-cong : (k : ℕ) (f g : ℕ → Bool) → ((i : ℕ) → i < k → f i ≡ g i) → any_below k f ≡ any_below k g
any-cong k f g e =
    bool_iff (λ p. let s = any_some k f p in sym (any-yes k g s.0 s.1 (sym (e s.0 s.1) ∙ s.2)))
    (λ p. let s = any_some k g p in sym (any-yes k f s.0 s.1 (e s.0 s.1 ∙ s.2)))

-- from n on nothing passes
pub any-shorter : (n m : ℕ) (f : ℕ → Bool) → n ≤ m → ((i : ℕ) → n ≤ i → i < m → f i ≡ false) → any_below m f ≡ any_below n f
any-shorter n m f h rest =
    bool_iff
    (λ p. let s = any_some m f p in
    ⊎_elim (λ (l : s.0 < n). sym (any-yes n f s.0 l s.2)) (λ (l : n ≤ s.0). absurd (clash s.2 (rest s.0 l s.1))) (lt-or-ge s.0 n))
    (λ p. let s = any_some n f p in sym (any-yes m f s.0 (omega (arith, s.1)) s.2))

pub any-more : (f : ℕ → Bool) (j : ℕ) → any_below (j + 1) f ≡ any_below j f || f j
unfolding any_below
any-more f j = rw add-one

-- ---- sums

pub sum-cong : (k : ℕ) (f g : ℕ → ℕ) → ((i : ℕ) → i < k → f i ≡ g i) → sum_below k f ≡ sum_below k g
unfolding sum_below
sum-cong zero f g e = refl
sum-cong (suc k) f g e = ap₂ (λ (x y : ℕ). x + y) (sum-cong k f g (λ i h. e i (omega arith))) (e k (le_refl (suc k)))

pub sum-add : (a b : ℕ) (f : ℕ → ℕ) → sum_below (a + b) f ≡ sum_below a f + sum_below b (λ i. f (a + i))
unfolding sum_below
sum-add a zero f = ap (λ (k : ℕ). sum_below k f) (add-zero a) ∙ sym (add-zero (sum_below a f))
sum-add a (suc b) f =
    ap (λ (k : ℕ). sum_below k f) (add-suc a b) ∙ ap (λ (x : ℕ). x + f (a + b)) (sum-add a b f)
    ∙ add_assoc (sum_below a f) (sum_below b (λ i. f (a + i))) (f (a + b))

-- a loop that sums: after j turns the total is `sum_below j f`
pub sum-none : (f : ℕ → ℕ) → 0 ≡ sum_below 0 f
unfolding sum_below
sum-none f = refl

pub sum_more : (f : ℕ → ℕ) (j : ℕ) {total x : ℕ} → total ≡ sum_below j f → x ≡ f j → total + x ≡ sum_below (j + 1) f
unfolding sum_below
sum_more f j e h = rw add-one (ap₂ (λ (a b : ℕ). a + b) e h)

pub sum_done : (f : ℕ → ℕ) (j k : ℕ) {total : ℕ} → total ≡ sum_below j f → j ≡ k → total ≡ sum_below k f
sum_done f j k e h = e ∙ ap (λ (m : ℕ). sum_below m f) h

-- the lowest term apart
pub sum-cons : (k : ℕ) (f : ℕ → ℕ) → sum_below (suc k) f ≡ f 0 + sum_below k (λ i. f (suc i))
unfolding sum_below
sum-cons zero f = omega arith
sum-cons (suc k) f = omega (arith, sum-cons k f)

pub sum-zero : (k : ℕ) (f : ℕ → ℕ) → ((i : ℕ) → i < k → f i ≡ 0) → sum_below k f ≡ 0
unfolding sum_below
sum-zero zero f e = refl
sum-zero (suc k) f e = omega (arith, sum-zero k f (λ i h. e i (omega arith)), e k (le_refl (suc k)))

pub sum-plus : (k : ℕ) (f g : ℕ → ℕ) → sum_below k (λ i. f i + g i) ≡ sum_below k f + sum_below k g
unfolding sum_below
sum-plus zero f g = omega arith
sum-plus (suc k) f g = omega (arith, sum-plus k f g)

-- where no other term is above 0
pub sum-only : (k y : ℕ) (f : ℕ → ℕ) → y < k → ((i : ℕ) → (i ≡ y → ⊥) → f i ≡ 0) → sum_below k f ≡ f y
unfolding sum_below
sum-only zero y f l none = absurd (not-suc-le-zero l)
sum-only (suc k) y f l none =
    ⊎_elim (λ (m : y < k). omega (arith, sum-only k y f m none, none k (λ e. omega (arith, e, m))))
    (λ (m : y ≡ k). rw m (omega (arith, sum-zero k f (λ i u. none i (λ e. omega (arith, e, u, m)))))) (below_suc l)

-- from n on every term is 0
pub sum-shorter : (n m : ℕ) (f : ℕ → ℕ) → n ≤ m → ((i : ℕ) → n ≤ i → i < m → f i ≡ 0) → sum_below m f ≡ sum_below n f
sum-shorter n m f l e =
    let whole : m ≡ n + (m - n) = omega arith in
    ap (λ (k : ℕ). sum_below k f) whole ∙ sum-add n (m - n) f
    ∙ ap (λ (x : ℕ). sum_below n f + x) (sum-zero (m - n) (λ i. f (n + i)) (λ i h. e (n + i) (omega arith) (omega arith))) ∙ add-zero (sum_below n f)

-- a sum over a rows of b
pub sum-mul : (a b : ℕ) (f : ℕ → ℕ) → sum_below (a * b) f ≡ sum_below a (λ i. sum_below b (λ j. f (i * b + j)))
unfolding sum_below
sum-mul zero b f = ap (λ (k : ℕ). sum_below k f) (zero-mul b)
sum-mul (suc a) b f = ap (λ (k : ℕ). sum_below k f) (suc-mul a b) ∙ sum-add (a * b) b f ∙ ap (λ (x : ℕ). x + sum_below b (λ j. f (a * b + j))) (sum-mul a b f)

-- ---- the lowest number that passes

abbrev pub lowest_step : Bool → ℕ → ℕ
lowest_step b m = cond b 0 (suc m)

pub lowest-le : (k : ℕ) (f : ℕ → Bool) → lowest k f ≤ k
unfolding lowest
lowest-le zero f = zero-le
lowest-le (suc k) f = step (f 0) (lowest-le k (λ i. f (suc i)))
  where
    step : (b : Bool) {m k : ℕ} → m ≤ k → lowest_step b m ≤ suc k
    step true h = zero-le
    step false h = suc-le-suc h

pub lowest-before : (k : ℕ) (f : ℕ → Bool) (i : ℕ) → i < lowest k f → f i ≡ false
unfolding lowest
lowest-before zero f i h = absurd (not-suc-le-zero h)
lowest-before (suc k) f i h = step (f 0) refl (lowest-before k (λ i. f (suc i))) i h
  where
    step : (b : Bool) {m : ℕ} → f 0 ≡ b → ((i : ℕ) → i < m → f (suc i) ≡ false) → (i : ℕ) → i < lowest_step b m → f i ≡ false
    step true e ih i h = absurd (not-suc-le-zero h)
    step false e ih zero h = e
    step false e ih (suc i) h = ih i (le_of_suc-le-suc h)

pub lowest-at : (k : ℕ) (f : ℕ → Bool) → lowest k f < k → f (lowest k f) ≡ true
unfolding lowest
lowest-at zero f h = absurd (not-suc-le-zero h)
lowest-at (suc k) f h = step (f 0) refl (lowest-at k (λ i. f (suc i))) h
  where
    step : (b : Bool) {m : ℕ} → f 0 ≡ b → (m < k → f (suc m) ≡ true) → lowest_step b m < suc k → f (lowest_step b m) ≡ true
    step true e ih h = e
    step false e ih h = ih (le_of_suc-le-suc h)

-- r has f, and nothing below it
pub lowest-is : (k : ℕ) (f : ℕ → Bool) (r : ℕ) → r < k → f r ≡ true → ((i : ℕ) → i < r → f i ≡ false) → r ≡ lowest k f
lowest-is k f r h here before =
    ⊎_elim (λ (l : lowest k f < r). absurd (clash (lowest-at k f (omega arith)) (before (lowest k f) l)))
    (λ (l : r ≤ lowest k f). ⊎_elim (λ e. e) (λ m. absurd (clash here (lowest-before k f r m))) (eq-or-lt_of_le l)) (lt-or-ge (lowest k f) r)

pub lowest-none : (k : ℕ) (f : ℕ → Bool) → ((i : ℕ) → i < k → f i ≡ false) → k ≡ lowest k f
lowest-none k f none =
    ⊎_elim (λ e. sym e) (λ (l : lowest k f < k). absurd (clash (lowest-at k f l) (none (lowest k f) l))) (eq-or-lt_of_le (lowest-le k f))

-- where not all fail, one below k passes
pub lowest-some : (k : ℕ) (f : ℕ → Bool) → all_below k (λ i. not (f i)) ≡ false → lowest k f < k
lowest-some k f e = ⊎_elim (λ l. l)
    (λ (m : k ≤ lowest k f). absurd (clash (all_of k _ (λ i l. ap not (lowest-before k f i (omega (arith, l, m))))) e)) (lt-or-ge (lowest k f) k)

pub lowest-cong : (k : ℕ) (f g : ℕ → Bool) → ((i : ℕ) → f i ≡ g i) → lowest k f ≡ lowest k g
unfolding lowest
lowest-cong zero f g e = refl
lowest-cong (suc k) f g e = ap₂ lowest_step (e 0) (lowest-cong k _ _ (λ i. e (suc i)))

-- some number below n passes: the bound does not matter
pub lowest-lt : (n : ℕ) (f : ℕ → Bool) (i : ℕ) → i < n → f i ≡ true → lowest n f < n
lowest-lt n f i h e = ⊎_elim (λ p. absurd (clash e (lowest-before n f i (omega arith)))) (λ l. l) (eq-or-lt_of_le (lowest-le n f))

pub lowest-shorter : (n m : ℕ) (f : ℕ → Bool) → n ≤ m → (i : ℕ) → i < n → f i ≡ true → lowest m f ≡ lowest n f
lowest-shorter n m f l i h e =
    let low = lowest-lt n f i h e in
    sym (lowest-is m f (lowest n f) (omega arith) (lowest-at n f low) (lowest-before n f))

-- ---- a list given by a function

pub length-list_below : {A : Type 0} (k : ℕ) (f : ℕ → A) → length (list_below k f) ≡ k
unfolding list_below
length-list_below zero f = refl
length-list_below (suc k) f = ap suc (length-list_below k (λ i. f (suc i)))

pub get_or-list_below : {A : Type 0} (d : A) (k : ℕ) (f : ℕ → A) (i : ℕ) → i < k → get_or (list_below k f) i d ≡ f i
unfolding list_below
get_or-list_below d zero f i h = absurd (not-suc-le-zero h)
get_or-list_below d (suc k) f zero h = refl
get_or-list_below d (suc k) f (suc i) h = get_or-list_below d k (λ i. f (suc i)) i (le_of_suc-le-suc h)

pub list_ext : (k : ℕ) (f : ℕ → ℕ) (l : List ℕ) → length l ≡ k → ((i : ℕ) → i < k → get_or l i 0 ≡ f i) → l ≡ list_below k f
list_ext k f l e same =
    ext_get_or 0 l (list_below k f) (e ∙ sym (length-list_below k f)) (λ i h. same i (omega (arith, e, h)) ∙ sym (get_or-list_below 0 k f i (omega (arith, e, h))))

pub list_below-cong : (k : ℕ) (f g : ℕ → ℕ) → ((i : ℕ) → i < k → f i ≡ g i) → list_below k f ≡ list_below k g
list_below-cong k f g same = list_ext k g (list_below k f) (length-list_below k f) (λ i h. get_or-list_below 0 k f i h ∙ same i h)

pub list_below-add : {A : Type 0} (a b : ℕ) (f : ℕ → A) → list_below (a + b) f ≡ list_below a f ++ list_below b (λ i. f (a + i))
unfolding list_below
list_below-add zero b f = ap (λ (k : ℕ). list_below k f) (zero-add b) ∙ ap (list_below b) (fun_ext (λ i. ap f (sym (zero-add i))))
list_below-add {A} (suc a) b f =
    ap (λ (k : ℕ). list_below k f) (suc-add a b)
    ∙ ap (λ (t : List A). f 0 ∷ t)
    (list_below-add a b (λ i. f (suc i)) ∙ ap (λ (g : ℕ → A). list_below a (λ i. f (suc i)) ++ list_below b g) (fun_ext (λ i. ap f (sym (suc-add a i)))))

-- ---- a loop that fills a list from the front, one store a turn: after n turns it is `list_below n f ++ drop n d`

-- what is not yet filled is as it was
pub get_or-fill : (n : ℕ) (f : ℕ → ℕ) (d : List ℕ) → get_or (list_below n f ++ drop n d) n 0 ≡ get_or d n 0
unfolding list_below
get_or-fill zero f d = refl
get_or-fill (suc n) f [] = beyond n (λ i. f (suc i))
  where
    beyond : (n : ℕ) (f : ℕ → ℕ) → get_or (list_below n f ++ []) n 0 ≡ 0
    beyond zero f = refl
    beyond (suc n) f = beyond n (λ i. f (suc i))
get_or-fill (suc n) f (x ∷ d) = get_or-fill n (λ i. f (suc i)) d

fill_suc : (n : ℕ) (f : ℕ → ℕ) (d : List ℕ) → n < length d → set (list_below n f ++ drop n d) n (f n) ≡ list_below (suc n) f ++ drop (suc n) d
unfolding list_below
fill_suc n f [] l = absurd (not-suc-le-zero l)
fill_suc zero f (x ∷ d) l = refl
fill_suc (suc n) f (x ∷ d) l = ap (λ (t : List ℕ). f 0 ∷ t) (fill_suc n (λ i. f (suc i)) d (le_of_suc-le-suc l))

pub fill_more : (n : ℕ) (f : ℕ → ℕ) (d : List ℕ) {v : ℕ} → n < length d → v ≡ f n → set (list_below n f ++ drop n d) n v ≡ list_below (n + 1) f ++ drop (n + 1) d
fill_more n f d l e = rw (e, add-one) (fill_suc n f d l)

-- a list that was copied whole
pub fill-copied : (l d now : List ℕ) (j : ℕ) → now ≡ list_below j (λ i. get_or l i 0) ++ drop j d → j ≡ length l → length l ≡ length d → now ≡ l
fill-copied l d now j e at long =
    e ∙ ap (λ (t : List ℕ). list_below j (λ i. get_or l i 0) ++ t) (drop_of_length-le d {i = j} (omega arith)) ∙ append-nil (list_below j (λ i. get_or l i 0))
    ∙ sym (list_ext j (λ i. get_or l i 0) l (sym at) (λ i h. refl))

-- ---- the lowest number, by another test or bound

pub lowest-agree : (k : ℕ) (f g : ℕ → Bool) → ((i : ℕ) → i < k → f i ≡ g i) → lowest k f ≡ lowest k g
unfolding lowest
lowest-agree zero f g e = refl
lowest-agree (suc k) f g e = ap₂ lowest_step (e 0 (zero-lt-suc k)) (lowest-agree k _ _ (λ i h. e (suc i) (omega arith)))

-- whether p is the lowest does not depend on the bound above p
pub lowest-test : (n m : ℕ) (f : ℕ → Bool) (p : ℕ) → n ≤ m → p < n → eqb (lowest m f) p ≡ eqb (lowest n f) p
lowest-test n m f p l h =
    ⊎_elim
    (λ (e : lowest n f ≡ n).
    ⊎_elim (λ (low : lowest m f < n). absurd (clash (lowest-at m f (omega arith)) (lowest-before n f (lowest m f) (omega arith))))
    (λ (high : n ≤ lowest m f). ne_eqb (lowest m f) p (λ x. omega arith) ∙ sym (ne_eqb (lowest n f) p (λ x. omega arith))) (lt-or-ge (lowest m f) n))
    (λ (low : lowest n f < n). ap (λ (x : ℕ). eqb x p) (lowest-shorter n m f l (lowest n f) low (lowest-at n f low)))
    (eq-or-lt_of_le (lowest-le n f))
