-- Laws of loops that test every number below a bound, of lists whose every element keeps a property, of the numbers that pass a test,
-- and of lists one after the other. Assumes nothing.
use Prim.Native.Nat.{ℕ, zero, suc, ◌+◌, ◌*◌, ◌≤◌, ◌<◌, suc-le-suc}
use mathlib.Core.Path.{◌≡◌, refl, sym, ap, ap₂, ◌∙◌}
use mathlib.Core.Bool.{Bool, true, false, not, cond, ◌||◌, and-false}
use mathlib.Core.List.{List, [], ◌∷◌, ◌++◌, map, append_assoc, append-nil}
use mathlib.Core.Logic.{◌⊎◌, inl, inr, ⊎_elim}
use native.Mathlib.Omega.{arith}
use native.Mathlib.Numerals.{add-one}
use native.Mathlib.Nat.{not-suc-le-zero, zero-lt-suc, le_refl, le_of_suc-le-suc, eq-or-lt_of_le, add-zero, add-suc, suc-add, mul-zero, mul-suc}
use native.Mathlib.Decide.{dec_le}
use borrow.Author.Tests.{eq-eqb, ne_eqb, not-true, not-false}
use lib.ListN.{length, get_or, set, take, drop, length-drop, length-append, get_or-append}
use borrow.Rule.Slice.PartMut.{put_mid}
use lib.Seq.{sets, sets-eq, drop-drop, take-suc, take_all, length-take-le, get_or-append-add, get_or-append_seam}
use lib.Dec.{eqb}
use Rattle.std.proofs.lemmas.List.{get_or-take, get_or-drop}
use Rattle.lts.specs.Bounded.{all_below, sum_below, count_below, passing, list_below, concat_below}
use Rattle.lts.proofs.Below.{list_ext}
use Rattle.lts.proofs.Bounded.{below_suc}

-- at most n + 1: at most n, or n + 1
pub split : (n i : ℕ) → i ≤ suc n → (i ≤ n) ⊎ (i ≡ suc n)
split n i l = elim (dec_le i n) [ yes k ↦ inl k | no k ↦ inr (omega (arith, k)) ]

-- ## Every number below n passes
module _ (f : ℕ → Bool) where
  pub all_none : all_below 0 f ≡ true
  unfolding all_below
  all_none = refl

  -- one more number that passes, by a test that was made of it
  pub all_more : (i : ℕ) {b : Bool} → all_below i f ≡ true → b ≡ f i → not b ≡ false → all_below (i + 1) f ≡ true
  unfolding all_below
  all_more i {b} a e t = rw (add-one, a, ← e) (not-false b t)

  -- a number below n that does not
  pub all-stop : (n i : ℕ) {b : Bool} → i < n → b ≡ f i → not b ≡ true → false ≡ all_below n f
  unfolding all_below
  all-stop n i {b} l e t = sym (go n l)
    where
      no-i : f i ≡ false
      no-i = sym e ∙ not-true b t

      go : (n : ℕ) → i < n → all_below n f ≡ false
      go zero l = absurd (not-suc-le-zero l)
      go (suc n) l = ⊎_elim (λ (m : i < n). rw (go n m)) (λ (m : i ≡ n). rw (← m, no-i, and-false)) (below_suc l)

  -- the end of the loop
  pub all_done : (n i : ℕ) → all_below i f ≡ true → i ≤ n → n ≤ i → true ≡ all_below n f
  all_done n i a l g = let e : n ≡ i = omega arith in rw (e, a)

-- ## Every element of a list keeps P
abbrev pub Every {ℓ} : {A : Type ℓ} → (A → Type 0) → List A → Type 0
Every P [] = Unit {0}
Every P (x ∷ l) = P x × Every P l

module _ {ℓ} {A : Type ℓ} where
  pub every_append : (P : A → Type 0) (k l : List A) → Every P k → Every P l → Every P (k ++ l)
  every_append P [] l p q = q
  every_append P (x ∷ k) l p q = (p.0, every_append P k l p.1 q)

  pub every-at : (P : A → Type 0) (d : A) (l : List A) (j : ℕ) → Every P l → j < length l → P (get_or l j d)
  every-at P d [] j e k = absurd (not-suc-le-zero k)
  every-at P d (x ∷ l) zero e k = e.0
  every-at P d (x ∷ l) (suc j) e k = every-at P d l j e.1 (omega arith)

  pub every_of : (P : A → Type 0) (d : A) (l : List A) → ((i : ℕ) → i < length l → P (get_or l i d)) → Every P l
  every_of P d [] f = tt
  every_of P d (x ∷ l) f = (f 0 (zero-lt-suc (length l)), every_of P d l (λ i u. f (suc i) (suc-le-suc u)))

  pub every_more : (P Q : A → Type 0) (l : List A) → ((x : A) → P x → Q x) → Every P l → Every Q l
  every_more P Q [] f e = tt
  every_more P Q (x ∷ l) f e = (f x e.0, every_more P Q l f e.1)

pub every_map {ℓ ℓ'} : {A : Type ℓ} {B : Type ℓ'} (P : B → Type 0) (g : A → B) (l : List A) → Every (λ x. P (g x)) l → Every P (map g l)
every_map P g [] e = tt
every_map P g (x ∷ l) e = (e.0, every_map P g l e.1)

-- ## The numbers below n that pass
module _ (f : ℕ → Bool) where
  pub passing-none : length (passing 0 f) ≡ 0
  unfolding passing
  passing-none = refl

  pub passing-more : (i : ℕ) → f i ≡ true → passing (i + 1) f ≡ passing i f ++ (i ∷ [])
  unfolding passing
  passing-more i e = rw (add-one, e)

  passing-grows : (n : ℕ) → length (passing n f) ≤ length (passing (suc n) f)
  unfolding passing
  passing-grows n = omega (arith, length-append (passing n f) (cond (f n) (n ∷ []) []))

  -- one that passes leaves room for itself, and stands there
  pub passing-room : (n i : ℕ) → i < n → f i ≡ true → length (passing i f) < length (passing n f)
  unfolding passing
  passing-room zero i l e = absurd (not-suc-le-zero l)
  passing-room (suc n) i l e =
      ⊎_elim (λ (m : i < n). omega (arith, passing-room n i m e, passing-grows n)) (λ (m : i ≡ n). late m) (below_suc l)
    where
      late : i ≡ n → length (passing i f) < length (passing n f ++ cond (f n) (n ∷ []) [])
      late m = rw (m, ← m, e, m, length-append) (omega arith)

  pub passing-place : (n i : ℕ) → i < n → f i ≡ true → get_or (passing n f) (length (passing i f)) 0 ≡ i
  unfolding passing
  passing-place zero i l e = absurd (not-suc-le-zero l)
  passing-place (suc n) i l e =
      ⊎_elim (λ (m : i < n). get_or-append (passing n f) _ 0 (length (passing i f)) (passing-room n i m e) ∙ passing-place n i m e) (λ (m : i ≡ n). late m) (below_suc l)
    where
      late : i ≡ n → get_or (passing n f ++ cond (f n) (n ∷ []) []) (length (passing i f)) 0 ≡ i
      late m = rw (m, ← m, e) (rw m (get_or-append_seam (passing n f) n [] 0))

  pub passing-keeps : (P : ℕ → Type 0) (n : ℕ) → ((t : ℕ) → t < n → f t ≡ true → P t) → Every P (passing n f)
  unfolding passing
  passing-keeps P zero k = tt
  passing-keeps P (suc n) k =
      every_append P (passing n f) (cond (f n) (n ∷ []) []) (passing-keeps P n (λ t l e. k t (omega arith) e)) (one (f n) refl)
    where
      one : (b : Bool) → f n ≡ b → Every P (cond b (n ∷ []) [])
      one true e = (k n (le_refl _) e, tt)
      one false e = tt

pub passing-same : (n : ℕ) (f g : ℕ → Bool) → ((i : ℕ) → i < n → f i ≡ g i) → passing n f ≡ passing n g
unfolding passing
passing-same zero f g e = refl
passing-same (suc n) f g e = rw (passing-same n f g (λ i l. e i (omega arith)), e n (le_refl (suc n)))

-- they are as many as are counted
pub length-passing : (n : ℕ) (f : ℕ → Bool) → length (passing n f) ≡ count_below n f
unfolding passing count_below sum_below
length-passing zero f = refl
length-passing (suc n) f = length-append (passing n f) (cond (f n) (n ∷ []) []) ∙ ap₂ (λ (a b : ℕ). a + b) (length-passing n f) (one (f n))
  where
    one : (b : Bool) → length (cond b (n ∷ []) []) ≡ cond b 1 0
    one true = refl
    one false = refl

-- a lower bound's list stands first in a higher one's
pub passing-prefix : (n m : ℕ) (f : ℕ → Bool) → n ≤ m → (rest : List ℕ) × (passing m f ≡ passing n f ++ rest)
unfolding passing
passing-prefix n zero f h = let e : 0 ≡ n = omega arith in ([], ap (λ (k : ℕ). passing k f) e ∙ sym (append-nil (passing n f)))
passing-prefix n (suc m) f h =
    ⊎_elim (λ (e : n ≡ suc m). ([], ap (λ (k : ℕ). passing k f) (sym e) ∙ sym (append-nil (passing n f))))
    (λ (l : n < suc m).
    let low = passing-prefix n m f (le_of_suc-le-suc l) in
    let end : List ℕ = cond (f m) (m ∷ []) [] in
    (low.0 ++ end, ap (λ (x : List ℕ). x ++ end) low.1 ∙ append_assoc (passing n f) low.0 end))
    (eq-or-lt_of_le h)

pub passing-early : (n m : ℕ) (f : ℕ → Bool) (j : ℕ) → n ≤ m → j < length (passing n f) → get_or (passing m f) j 0 ≡ get_or (passing n f) j 0
passing-early n m f j h l =
    let low = passing-prefix n m f h in
    ap (λ (x : List ℕ). get_or x j 0) low.1 ∙ get_or-append (passing n f) low.0 0 j l

pub passing-longer : (n m : ℕ) (f : ℕ → Bool) → n ≤ m → length (passing n f) ≤ length (passing m f)
passing-longer n m f h =
    let low = passing-prefix n m f h in
    omega (arith, ap length low.1, length-append (passing n f) low.0)

-- how many pass
abbrev bit : Bool → ℕ
bit b = cond b 1 0

passing-suc : (n : ℕ) (f : ℕ → Bool) → length (passing (suc n) f) ≡ length (passing n f) + bit (f n)
unfolding passing
passing-suc n f = length-append (passing n f) (cond (f n) (n ∷ []) []) ∙ ap (λ x. length (passing n f) + x) (one (f n))
  where
    one : (b : Bool) → length (cond b (n ∷ []) []) ≡ bit b
    one true = refl
    one false = refl

pub passing-add : (i j : ℕ) (f : ℕ → Bool) → length (passing (i + j) f) ≡ length (passing i f) + length (passing j (λ t. f (i + t)))
passing-add i zero f = rw (add-zero, passing-none) (omega arith)
passing-add i (suc j) f = rw (add-suc, passing-suc, passing-add i j f, passing-suc) (omega arith)

pub passing-zero : (n : ℕ) (f : ℕ → Bool) → ((i : ℕ) → i < n → f i ≡ false) → length (passing n f) ≡ 0
passing-zero zero f e = passing-none f
passing-zero (suc n) f e = rw (passing-suc, passing-zero n f (λ i l. e i (omega arith)), e n (le_refl _))

pub passing-all : (n : ℕ) (f : ℕ → Bool) → ((i : ℕ) → i < n → f i ≡ true) → length (passing n f) ≡ n
passing-all zero f e = passing-none f
passing-all (suc n) f e = rw (passing-suc, passing-all n f (λ i l. e i (omega arith)), e n (le_refl _)) (omega arith)

pub passing-or : (b y : ℕ) (g : ℕ → Bool) → y < b → g y ≡ false → length (passing b (λ x. eqb x y || g x)) ≡ suc (length (passing b g))
passing-or zero y g l e = absurd (not-suc-le-zero l)
passing-or (suc b) y g l e =
    ⊎_elim (λ (k : y < b). early k (passing-or b y g k e)) (λ (k : y ≡ b). late k) (below_suc l)
  where
    early : y < b → length (passing b (λ x. eqb x y || g x)) ≡ suc (length (passing b g))
        → length (passing (suc b) (λ x. eqb x y || g x)) ≡ suc (length (passing (suc b) g))
    early k h = rw (passing-suc, passing-suc, h, ne_eqb b y (λ q. omega arith)) (omega arith)

    late : y ≡ b → length (passing (suc b) (λ x. eqb x y || g x)) ≡ suc (length (passing (suc b) g))
    late k =
        let s = passing-same b (λ x. eqb x y || g x) g (λ i u. rw (ne_eqb i y (λ q. omega arith))) in
        let z : g b ≡ false = rw k at e in
        rw (passing-suc, passing-suc, s, eq-eqb b y (sym k), z) (omega arith)

-- ## The lists f 0, .., f (n - 1), one after the other
module _ {ℓ} {A : Type ℓ} (f : ℕ → List A) where
  pub concat-more : (i : ℕ) → concat_below (i + 1) f ≡ concat_below i f ++ f i
  unfolding concat_below
  concat-more i = rw add-one

  pub concat-length : (i : ℕ) → length (concat_below (suc i) f) ≡ length (concat_below i f) + length (f i)
  unfolding concat_below
  concat-length i = length-append (concat_below i f) (f i)

  pub concat-grows : (n i : ℕ) → i ≤ n → length (concat_below i f) ≤ length (concat_below n f)
  concat-grows zero i l = let e : i ≡ 0 = omega arith in rw e (le_refl _)
  concat-grows (suc n) i l =
      ⊎_elim (λ (k : i ≤ n). omega (arith, concat-length n, concat-grows n i k)) (λ (k : i ≡ suc n). rw k (le_refl _)) (split n i l)

  -- of length k each
  pub concat-each : (k n : ℕ) → ((i : ℕ) → i < n → length (f i) ≡ k) → length (concat_below n f) ≡ k * n
  unfolding concat_below
  concat-each k zero e = sym (mul-zero k)
  concat-each k (suc n) e =
      rw (length-append, concat-each k n (λ i l. e i (omega arith)), e n (le_refl _), mul-suc)

  -- what stands before f j, and what stands in f j
  pub concat-before : (d : A) (n j i : ℕ) → j ≤ n → i < length (concat_below j f) → get_or (concat_below n f) i d ≡ get_or (concat_below j f) i d
  unfolding concat_below
  concat-before d zero j i l u = let e : j ≡ 0 = omega arith in rw e
  concat-before d (suc n) j i l u =
      ⊎_elim
      (λ (k : j ≤ n).
      let g = concat-grows n j k in
      get_or-append (concat_below n f) (f n) d i (omega arith) ∙ concat-before d n j i k u)
      (λ (k : j ≡ suc n). rw k)
      (split n j l)

  pub concat-at : (d : A) (n j i : ℕ) → j < n → i < length (f j) → get_or (concat_below n f) (length (concat_below j f) + i) d ≡ get_or (f j) i d
  unfolding concat_below
  concat-at d n j i l u =
      concat-before d n (suc j) (length (concat_below j f) + i) l (let z = concat-length j in omega arith)
      ∙ get_or-append-add (concat_below j f) (f j) i d

  pub concat-room : (n j i : ℕ) → j < n → i < length (f j) → length (concat_below j f) + i < length (concat_below n f)
  concat-room n j i l u = let g = concat-grows n (suc j) l in let z = concat-length j in omega arith

  pub concat-keeps : (P : A → Type 0) (n : ℕ) → ((i : ℕ) → i < n → Every P (f i)) → Every P (concat_below n f)
  unfolding concat_below
  concat-keeps P zero k = tt
  concat-keeps P (suc n) k = every_append P (concat_below n f) (f n) (concat-keeps P n (λ i l. k i (omega arith))) (k n (le_refl _))

pub concat-same {ℓ} : {A : Type ℓ} (n : ℕ) (f g : ℕ → List A) → ((i : ℕ) → i < n → f i ≡ g i) → concat_below n f ≡ concat_below n g
unfolding concat_below
concat-same zero f g e = refl
concat-same (suc n) f g e = rw (concat-same n f g (λ i l. e i (omega arith)), e n (le_refl _))

-- ## A list that was written to, with one list after the other
pub sets-append : (l : List ℕ) (i : ℕ) (vs ws : List ℕ) → sets l i (vs ++ ws) ≡ sets (sets l i vs) (i + length vs) ws
sets-append l i [] ws = rw add-zero
sets-append l i (v ∷ vs) ws = rw (sets-append (set l i v) (suc i) vs ws, add-suc, suc-add)

-- a turn of the loop that writes a list, and its end
pub sets_more : (l : List ℕ) (at : ℕ) (vs : List ℕ) (d : ℕ) → d < length vs → set (sets l at (take d vs)) (at + d) (get_or vs d 0) ≡ sets l at (take (d + 1) vs)
sets_more l at vs d h =
    let e : length (take d vs) ≡ d = length-take-le d vs (omega arith) in
    rw (add-one, take-suc vs d 0 h, sets-append, e)

pub sets-done : (l : List ℕ) (at : ℕ) (vs : List ℕ) (d : ℕ) {now : List ℕ} → now ≡ sets l at (take d vs) → length vs ≤ d → now ≡ sets l at vs
sets-done l at vs d e h = e ∙ rw (take_all d vs h)

-- a list that was written over in the middle, by a call on a part of it
pub middle-sets : (a k : ℕ) (xs ys : List ℕ) → length ys ≡ k → a + k ≤ length xs → put_mid a k xs ys ≡ sets xs a ys
middle-sets a k xs ys e h = ap (λ (l : List ℕ). take a xs ++ (ys ++ l)) (drop-drop k a xs ∙ ap (λ (n : ℕ). drop (a + n) xs) (sym e)) ∙ sym (append_assoc (take a xs) ys _) ∙ sym (sets-eq ys xs a (omega arith))

-- a part of a list, element by element
pub part_below : (a k : ℕ) (xs : List ℕ) → a + k ≤ length xs → take k (drop a xs) ≡ list_below k (λ i. get_or xs (a + i) 0)
part_below a k xs h = list_ext k _ _ (length-take-le k (drop a xs) (omega (arith, length-drop a xs))) (λ i l. get_or-take k (drop a xs) i 0 l ∙ get_or-drop a xs i 0)
