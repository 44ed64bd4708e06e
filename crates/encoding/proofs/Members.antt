-- Laws of `member`, `distinct` and `occurrences`: lists one after the other, how many members a list has, and how often it holds one.
use Prim.Native.Nat.{ℕ, zero, suc, ◌+◌, ◌≤◌, ◌<◌, zero-le}
use mathlib.Core.Path.{◌≡◌, refl, sym, ap, ◌∙◌}
use mathlib.Core.Logic.{◌⊎◌, inl, inr, ⊎_elim}
use mathlib.Core.Bool.{Bool, true, false, cond, not, and-eq-true_iff, ◌&&◌}
use mathlib.Core.List.{List, [], ◌∷◌, ◌++◌, map}
use native.Mathlib.Omega.{arith}
use native.Mathlib.Nat.{not-suc-le-zero, le_refl, le_of_suc-le-suc}
use native.Mathlib.Decide.{ℕ_discrete}
use borrow.Author.Tests.{eq-eqb, ne_eqb, eqb-true, not-true}
use lib.ListN.{length, get_or}
use lib.Dec.{T, eqb}
use Rattle.lts.specs.Bounded.{sum_below, passing, concat_below, list_below}
use Rattle.lts.proofs.Bounded.{or_elim, or_left, or_right, below_suc}
use Rattle.lts.proofs.Below.{clash, T_true, true-T, sum-cong, sum-zero, sum-none, sum-cons, sum-plus, sum-only}
use Rattle.lts.proofs.Count.{count_most, one-most}
use Rattle.lts.proofs.Lists.{Every, every_more, passing-zero, passing-add, passing-or, length-passing}
use Rattle.encoding.specs.Encoding.{member, distinct, occurrences}
use Rattle.encoding.specs.Read.{Twice}
use Rattle.encoding.proofs.Chains.{Below}

-- ## Members of lists
pub member-here : (x : ℕ) (l : List ℕ) → T (member x (x ∷ l))
unfolding member
member-here x l = or_left (eqb x x) _ (true-T _ (eq-eqb x x refl))

-- at the head, where the two numbers are equal
pub member-first : (x y : ℕ) (l : List ℕ) → x ≡ y → T (member x (y ∷ l))
unfolding member
member-first x y l e = or_left (eqb x y) _ (true-T _ (eq-eqb x y e))

pub member-later : (x y : ℕ) (l : List ℕ) → T (member x l) → T (member x (y ∷ l))
unfolding member
member-later x y l t = or_right (eqb x y) _ t

pub member-cases : (x y : ℕ) (l : List ℕ) {P : Type 0} → (x ≡ y → P) → (T (member x l) → P) → T (member x (y ∷ l)) → P
unfolding member
member-cases x y l f k t = or_elim (eqb x y) (member x l) (λ e. f (eqb-true x y (T_true _ e))) k t

member-append : (x : ℕ) (k l : List ℕ) → T (member x k) ⊎ T (member x l) → T (member x (k ++ l))
unfolding member
member-append x [] l (inl t) = absurd t
member-append x [] l (inr t) = t
member-append x (y ∷ k) l (inl t) = member-cases x y k (λ e. member-first x y (k ++ l) e) (λ m. member-later x y (k ++ l) (member-append x k l (inl m))) t
member-append x (y ∷ k) l (inr t) = member-later x y (k ++ l) (member-append x k l (inr t))

append-member : (x : ℕ) (k l : List ℕ) → T (member x (k ++ l)) → T (member x k) ⊎ T (member x l)
unfolding member
append-member x [] l t = inr t
append-member x (y ∷ k) l t =
    member-cases x y (k ++ l) (λ e. inl (member-first x y k e))
    (λ m. ⊎_elim (λ a. inl (member-later x y k a)) (λ b. inr b) (append-member x k l m)) t

module _ (f : ℕ → List ℕ) (x : ℕ) where
  pub member-concat : (n p : ℕ) → p < n → T (member x (f p)) → T (member x (concat_below n f))
  unfolding concat_below
  member-concat zero p l t = absurd (not-suc-le-zero l)
  member-concat (suc n) p l t =
      ⊎_elim (λ (m : p < n). member-append x (concat_below n f) (f n) (inl (member-concat n p m t)))
      (λ (m : p ≡ n). member-append x (concat_below n f) (f n) (inr (rw m at t))) (below_suc l)

  pub concat-member : (n : ℕ) → T (member x (concat_below n f)) → (p : ℕ) × (p < n) × T (member x (f p))
  unfolding concat_below member
  concat-member zero t = absurd t
  concat-member (suc n) t =
      ⊎_elim (λ a. let r = concat-member n a in (r.0, omega (arith, r.1), r.2)) (λ b. (n, le_refl _, b)) (append-member x (concat_below n f) (f n) t)

-- ## A list with no number twice has as many members as its length
pub distinct-count : (b : ℕ) (l : List ℕ) → distinct l ≡ true → Below b l → length (passing b (λ x. member x l)) ≡ length l
unfolding distinct member
distinct-count b [] d k = passing-zero b _ (λ i u. refl)
distinct-count b (y ∷ l) d k =
    let p = (and-eq-true_iff (not (member y l)) (distinct l)).0 d in
    passing-or b y (λ x. member x l) k.0 (not-true _ p.0) ∙ ap suc (distinct-count b l p.1 k.1)

-- ## What every member of a list keeps
pub member-keeps : (P : ℕ → Type 0) (x : ℕ) (l : List ℕ) → Every P l → (P x → ⊥) → member x l ≡ false
unfolding member
member-keeps P x [] a n = refl
member-keeps P x (y ∷ l) a n = rw (ne_eqb x y (λ e. n (rw e a.0)), member-keeps P x l a.1 n)

pub member-every : (P : ℕ → Type 0) (x : ℕ) (l : List ℕ) → Every P l → T (member x l) → P x
unfolding member
member-every P x [] a t = absurd t
member-every P x (y ∷ l) a t = member-cases x y l (λ e. rw e a.0) (member-every P x l a.1) t

-- a list of numbers from 1 to k, none twice, has at most k
pub distinct-few : (k : ℕ) (l : List ℕ) → distinct l ≡ true → Every (λ x. (1 ≤ x) × (x ≤ k)) l → length l ≤ k
distinct-few k l d known =
    let f : ℕ → Bool = λ x. member x l in
    let none = passing-zero 1 f (λ x u. member-keeps (λ x. (1 ≤ x) × (x ≤ k)) x l known (λ q. let z = q.0 in omega (arith, z))) in
    let all = distinct-count (1 + k) l d (every_more _ _ l (λ x q. omega (arith, q.1)) known) in
    omega (arith, all, none, passing-add 1 k f, length-passing k (λ t. f (1 + t)), count_most k (λ t. f (1 + t)))

-- ## How often a number stands in a list
pub occurrences-append : (x : ℕ) (k l : List ℕ) → occurrences x (k ++ l) ≡ occurrences x k + occurrences x l
unfolding occurrences
occurrences-append x [] l = omega arith
occurrences-append x (y ∷ k) l = omega (arith, occurrences-append x k l)

pub occurrences-most : (x : ℕ) (l : List ℕ) → occurrences x l ≤ length l
unfolding occurrences
occurrences-most x [] = zero-le
occurrences-most x (y ∷ l) = omega (arith, one-most (eqb x y), occurrences-most x l)

pub member-occurs : (x : ℕ) (l : List ℕ) → T (member x l) → 1 ≤ occurrences x l
unfolding member occurrences
member-occurs x [] t = absurd t
member-occurs x (y ∷ l) t =
    member-cases x y l (λ e. rw (eq-eqb x y e) (omega arith)) (λ m. omega (arith, member-occurs x l m)) t

pub absent_none : (x : ℕ) (l : List ℕ) → (T (member x l) → ⊥) → occurrences x l ≡ 0
unfolding occurrences
absent_none x [] n = refl
absent_none x (y ∷ l) n =
    rw (ne_eqb x y (λ e. n (rw e (member-here y l)))) (omega (arith, absent_none x l (λ t. n (member-later x y l t))))

-- at most once each where none stands twice, and the other way round
pub distinct-once : (l : List ℕ) → distinct l ≡ true → (x : ℕ) → occurrences x l ≤ 1
unfolding distinct occurrences
distinct-once [] d x = omega arith
distinct-once (y ∷ l) d x =
    let p = (and-eq-true_iff (not (member y l)) (distinct l)).0 d in
    let none = absent_none y l (λ t. clash (T_true (member y l) t) (not-true (member y l) p.0)) in
    elim (ℕ_discrete x y) [
      | yes e ↦ rw (eq-eqb x y e, ap (λ z. occurrences z l) e, none) (omega arith)
      | no n ↦ rw (ne_eqb x y n) (omega (arith, distinct-once l p.1 x))
    ]

pub once-distinct : (l : List ℕ) → ((x : ℕ) → occurrences x l ≤ 1) → distinct l ≡ true
unfolding distinct occurrences
once-distinct [] o = refl
once-distinct (y ∷ l) o = go (member y l) refl (once-distinct l (λ x. let z = o x in omega (arith, z)))
  where
    go : (b : Bool) → member y l ≡ b → distinct l ≡ true → (not (member y l) && distinct l) ≡ true
    go true e d = absurd (let z = o y in let m = member-occurs y l (true-T _ e) in let w = rw (eq-eqb y y refl) at z in omega (arith, w, m))
    go false e d = rw (e, d)

-- a place of the list, and two
pub place-occurs : (x : ℕ) (l : List ℕ) (i : ℕ) → i < length l → get_or l i 0 ≡ x → 1 ≤ occurrences x l
unfolding occurrences
place-occurs x [] i h e = absurd (not-suc-le-zero h)
place-occurs x (y ∷ l) zero h e = rw (eq-eqb x y (sym e)) (omega arith)
place-occurs x (y ∷ l) (suc i) h e = omega (arith, place-occurs x l i (le_of_suc-le-suc h) e)

pub occurs-place : (x : ℕ) (l : List ℕ) → 1 ≤ occurrences x l → (i : ℕ) × (i < length l) × (get_or l i 0 ≡ x)
unfolding occurrences
occurs-place x [] h = absurd (not-suc-le-zero h)
occurs-place x (y ∷ l) h = elim (ℕ_discrete x y) [
  | yes e ↦ (0, omega arith, sym e)
  | no n ↦ let h' = rw (ne_eqb x y n) at h in let r = occurs-place x l (omega (arith, h')) in (suc r.0, omega (arith, r.1), r.2)
]

pub places-occur : (x : ℕ) (l : List ℕ) (i j : ℕ) → i < j → j < length l → get_or l i 0 ≡ x → get_or l j 0 ≡ x → 2 ≤ occurrences x l
unfolding occurrences
places-occur x [] i j a h e f = absurd (not-suc-le-zero h)
places-occur x (y ∷ l) i zero a h e f = absurd (not-suc-le-zero a)
places-occur x (y ∷ l) zero (suc j) a h e f = rw (eq-eqb x y (sym e)) (omega (arith, place-occurs x l j (le_of_suc-le-suc h) f))
places-occur x (y ∷ l) (suc i) (suc j) a h e f = omega (arith, places-occur x l i j (le_of_suc-le-suc a) (le_of_suc-le-suc h) e f)

pub occur-places : (x : ℕ) (l : List ℕ) → 2 ≤ occurrences x l → Twice x l
unfolding occurrences
occur-places x [] h = absurd (not-suc-le-zero h)
occur-places x (y ∷ l) h = elim (ℕ_discrete x y) [
  | yes e ↦
      let h' = rw (eq-eqb x y e) at h in
      let r = occurs-place x l (omega (arith, h')) in
      record { one = 0; other = suc r.0; apart = omega arith; inside = omega (arith, r.1); first = sym e; second = r.2 }
  | no n ↦
      let h' = rw (ne_eqb x y n) at h in
      let r = occur-places x l (omega (arith, h')) in
      record { one = suc r.one; other = suc r.other; apart = omega (arith, r.apart); inside = omega (arith, r.inside); first = r.first; second = r.second }
]

-- of what f makes of a list's numbers, and of the list of f 0, f 1, ..
pub occurrences-map : (f : ℕ → ℕ) (x b : ℕ) (l : List ℕ) → Below b l
    → occurrences x (map f l) ≡ sum_below b (λ y. cond (eqb x (f y)) (occurrences y l) 0)
unfolding occurrences
occurrences-map f x b [] k = sym (sum-zero b _ (λ i u. none (eqb x (f i))))
  where
    none : (c : Bool) → ◌≡◌ {A = ℕ} (cond c 0 0) 0
    none true = refl
    none false = refl
occurrences-map f x b (y ∷ l) k =
    let one : sum_below b (λ z. cond (eqb x (f z)) (cond (eqb z y) 1 0) 0) ≡ cond (eqb x (f y)) 1 0 =
    sum-only b y _ k.0 (λ i n. rw (ne_eqb i y n) (same (eqb x (f i)))) ∙ rw (eq-eqb y y refl) in
    let parts = sum-cong b (λ z. cond (eqb x (f z)) (cond (eqb z y) 1 0 + occurrences z l) 0) _ (λ z u. apart (eqb x (f z)) (cond (eqb z y) 1 0) (occurrences z l)) in
    sym (parts ∙ sum-plus b _ _ ∙ rw (one, occurrences-map f x b l k.1))
  where
    same : (c : Bool) → ◌≡◌ {A = ℕ} (cond c 0 0) 0
    same true = refl
    same false = refl

    apart : (c : Bool) (m n : ℕ) → cond c (m + n) 0 ≡ cond c m 0 + cond c n 0
    apart true m n = refl
    apart false m n = omega arith

pub occurrences-list : (f : ℕ → ℕ) (x k : ℕ) → occurrences x (list_below k f) ≡ sum_below k (λ i. cond (eqb x (f i)) 1 0)
unfolding occurrences list_below
occurrences-list f x zero = sum-none _
occurrences-list f x (suc k) = rw (sum-cons k (λ i. cond (eqb x (f i)) 1 0), occurrences-list (λ i. f (suc i)) x k)
