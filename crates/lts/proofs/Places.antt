-- The laws of `specs/Places.antt`, for a test that passes exactly for equal values.
use Prim.Native.Nat.{ℕ, zero, suc, ◌+◌, ◌≤◌, ◌<◌, suc-le-suc}
use native.Mathlib.Nat.{le_of_suc-le-suc, not-suc-le-zero, zero-lt-suc, suc_inj}
use native.Mathlib.Omega.{arith}
use mathlib.Core.Path.{◌≡◌, refl, sym, ◌∙◌, ap, subst}
use mathlib.Core.Logic.{◌⊎◌, inl, inr, ⊎_elim, ◌↔◌}
use mathlib.Core.Bool.{Bool, true, false, cond, not, ◌||◌}
use mathlib.Core.List.{List, [], ◌∷◌, ◌++◌, append-nil, append_assoc}
use lib.Dec.{T}
use lib.ListN.{length, get_or, take, drop, length-append, get_or-append, take-append-drop}
use lib.Seq.{length-take-le, take-suc, take-take, get_or-take, append_snoc}
use Rattle.lts.specs.Places.{among, distinct, place_in, continued}
use Rattle.lts.proofs.Below.{lt-or-ge, clash, either, T_true, true-T}
use Rattle.lts.proofs.Bounded.{and-iff, not_iff, test-ext, or_elim, or_left, or_right}

-- the test passes exactly for equal values
pub record Tests {A : Type 0} (same : A → A → Bool) : Type 0 where
  pub sound : (x y : A) → T (same x y) → x ≡ y
  pub whole : (x : A) → T (same x x)

module _ {A : Type 0} (same : A → A → Bool) (is : Tests same) (d : A) where
  -- x is in the list exactly if it has a place
  pub among-iff : (xs : List A) (x : A) → T (among same xs x) ↔ ((i : ℕ) × (i < length xs) × (get_or xs i d ≡ x))
  unfolding among
  among-iff [] x = (λ t. absurd t, λ s. absurd (not-suc-le-zero s.1))
  among-iff (y ∷ ys) x = (
    or_elim (same y x) (among same ys x) (λ t. (zero, zero-lt-suc (length ys), is.sound y x t))
        (λ t. let s = (among-iff ys x).0 t in (suc s.0, suc-le-suc s.1, s.2)),
    from (among-iff ys x).1,
  )
    where
      from : (((i : ℕ) × (i < length ys) × (get_or ys i d ≡ x)) → T (among same ys x)) → ((i : ℕ) × (i < suc (length ys)) × (get_or (y ∷ ys) i d ≡ x))
          → T (same y x || among same ys x)
      from ih (zero, l, e) = or_left (same y x) (among same ys x) (subst (λ z. T (same y z)) e (is.whole y))
      from ih (suc i, l, e) = or_right (same y x) (among same ys x) (ih (i, le_of_suc-le-suc l, e))

  -- a list is distinct exactly if different places hold different values
  pub distinct-iff : (xs : List A) → T (distinct same xs) ↔ ((i j : ℕ) → i < length xs → j < length xs → get_or xs i d ≡ get_or xs j d → i ≡ j)
  unfolding distinct
  distinct-iff [] = (λ _ i j l m e. absurd (not-suc-le-zero l), λ _. tt)
  distinct-iff (x ∷ xs) = (
    λ t. let c = (and-iff (not (among same xs x)) (distinct same xs)).0 t in to ((not_iff (among same xs x)).0 c.0) ((distinct-iff xs).0 c.1),
    λ h. (and-iff (not (among same xs x)) (distinct same xs)).1 (
      (not_iff (among same xs x)).1 (λ u.
          let s = (among-iff xs x).0 u in
          zero-not-suc (h zero (suc s.0) (zero-lt-suc (length xs)) (suc-le-suc s.1) (sym s.2))),
      (distinct-iff xs).1 (λ i j l m e. suc_inj (h (suc i) (suc j) (suc-le-suc l) (suc-le-suc m) e)),
    ),
  )
    where
      zero-not-suc : {i : ℕ} → zero ≡ suc i → ⊥
      zero-not-suc {i} e = omega (arith, e)

      to : (T (among same xs x) → ⊥) → ((i j : ℕ) → i < length xs → j < length xs → get_or xs i d ≡ get_or xs j d → i ≡ j)
          → (i j : ℕ) → i < suc (length xs) → j < suc (length xs) → get_or (x ∷ xs) i d ≡ get_or (x ∷ xs) j d → i ≡ j
      to f ih zero zero l m e = refl
      to f ih zero (suc j) l m e = absurd (f ((among-iff xs x).1 (j, le_of_suc-le-suc m, sym e)))
      to f ih (suc i) zero l m e = absurd (f ((among-iff xs x).1 (i, le_of_suc-le-suc l, e)))
      to f ih (suc i) (suc j) l m e = ap suc (ih i j (le_of_suc-le-suc l) (le_of_suc-le-suc m) e)

  -- and in another list two places hold the same
  pub distinct-twice : (xs : List A) → distinct same xs ≡ false → (i j : ℕ) × (i < j) × (j < length xs) × (get_or xs i d ≡ get_or xs j d)
  unfolding distinct
  distinct-twice [] e = absurd (clash refl e)
  distinct-twice (x ∷ xs) e = ⊎_elim
      (λ (t : among same xs x ≡ true).
      let p = (among-iff xs x).0 (true-T (among same xs x) t) in
      (0, suc p.0, zero-lt-suc p.0, suc-le-suc p.1, sym p.2))
      (λ (t : among same xs x ≡ false).
      let f : distinct same xs ≡ false = rw t at e in
      let p = distinct-twice xs f in
      (suc p.0, suc p.1, suc-le-suc p.2, suc-le-suc p.3, p.4))
      (either (among same xs x))

  -- the place of a value of the list holds it
  pub place-holds : (xs : List A) (x : A) → T (among same xs x) → (place_in same xs x < length xs) × (get_or xs (place_in same xs x) d ≡ x)
  unfolding among place_in
  place-holds [] x t = absurd t
  place-holds (y ∷ ys) x t = go (same y x) (is.sound y x) (place-holds ys x) t
    where
      go : (b : Bool) → (T b → y ≡ x) → (T (among same ys x) → (place_in same ys x < length ys) × (get_or ys (place_in same ys x) d ≡ x))
          → T (b || among same ys x)
          → (cond b zero (suc (place_in same ys x)) < suc (length ys)) × (get_or (y ∷ ys) (cond b zero (suc (place_in same ys x))) d ≡ x)
      go true e ih t = (zero-lt-suc (length ys), e tt)
      go false e ih t = let h = ih t in (suc-le-suc h.0, h.1)

  -- and in a distinct list it is the value's one place
  pub place_at : (xs : List A) → T (distinct same xs) → (i : ℕ) → i < length xs → place_in same xs (get_or xs i d) ≡ i
  place_at xs t i l =
      let h = place-holds xs (get_or xs i d) ((among-iff xs (get_or xs i d)).1 (i, l, refl)) in
      (distinct-iff xs).0 t (place_in same xs (get_or xs i d)) i h.0 l h.1

  -- a place in a longer list
  place-append : (xs zs : List A) (x : A) → T (among same xs x) → place_in same (xs ++ zs) x ≡ place_in same xs x
  unfolding among place_in
  place-append [] zs x t = absurd t
  place-append (y ∷ ys) zs x t = go (same y x) (place-append ys zs x) t
    where
      go : (b : Bool) → (T (among same ys x) → place_in same (ys ++ zs) x ≡ place_in same ys x) → T (b || among same ys x)
          → cond b zero (suc (place_in same (ys ++ zs) x)) ≡ cond b zero (suc (place_in same ys x))
      go true ih t = refl
      go false ih t = ap suc (ih t)

  place-seam : (xs : List A) (x : A) (zs : List A) → (T (among same xs x) → ⊥) → place_in same (xs ++ x ∷ zs) x ≡ length xs
  unfolding among place_in
  place-seam [] x zs f = rw (T_true (same x x) (is.whole x))
  place-seam (y ∷ ys) x zs f =
      go (same y x) (λ t. f (or_left (same y x) (among same ys x) t)) (place-seam ys x zs (λ t. f (or_right (same y x) (among same ys x) t)))
    where
      go : (b : Bool) → (T b → ⊥) → place_in same (ys ++ x ∷ zs) x ≡ length ys → cond b zero (suc (place_in same (ys ++ x ∷ zs) x)) ≡ suc (length ys)
      go true f e = absurd (f tt)
      go false f e = ap suc e

  -- xs continued by ys begins with xs
  pub continued-is : (xs ys : List A) → (zs : List A) × (continued same xs ys ≡ xs ++ zs)
  unfolding continued
  continued-is xs [] = ([], sym (append-nil xs))
  continued-is xs (y ∷ ys) = go (among same xs y) (continued-is xs ys) (continued-is (xs ++ (y ∷ [])) ys)
    where
      go : (b : Bool) → ((zs : List A) × (continued same xs ys ≡ xs ++ zs)) → ((zs : List A) × (continued same (xs ++ (y ∷ [])) ys ≡ (xs ++ (y ∷ [])) ++ zs))
          → (zs : List A) × (continued same (cond b xs (xs ++ (y ∷ []))) ys ≡ xs ++ zs)
      go true s t = s
      go false s t = (y ∷ t.0, t.1 ∙ append_assoc xs (y ∷ []) t.0)

  pub continued-length : (xs ys : List A) → length xs ≤ length (continued same xs ys)
  continued-length xs ys =
      let s = continued-is xs ys in
      let e = ap (λ (l : List A). length l) s.1 ∙ length-append xs s.0 in
      omega (arith, e)

  pub continued-most : (xs ys : List A) → length (continued same xs ys) ≤ length xs + length ys
  unfolding continued
  continued-most xs [] = omega arith
  continued-most xs (y ∷ ys) = go (among same xs y) (continued-most xs ys) (continued-most (xs ++ (y ∷ [])) ys)
    where
      go : (b : Bool) → length (continued same xs ys) ≤ length xs + length ys
          → length (continued same (xs ++ (y ∷ [])) ys) ≤ length (xs ++ (y ∷ [])) + length ys
          → length (continued same (cond b xs (xs ++ (y ∷ []))) ys) ≤ length xs + suc (length ys)
      go true s t = omega (arith, s)
      go false s t = let n = length-append xs (y ∷ []) in omega (arith, t, n)

  pub continued-at : (xs ys : List A) (i : ℕ) → i < length xs → get_or (continued same xs ys) i d ≡ get_or xs i d
  continued-at xs ys i l = let s = continued-is xs ys in ap (λ (zs : List A). get_or zs i d) s.1 ∙ get_or-append xs s.0 d i l

  -- it holds the values of both
  pub among-append : (xs zs : List A) (x : A) → T (among same (xs ++ zs) x) ↔ (T (among same xs x) ⊎ T (among same zs x))
  unfolding among
  among-append [] zs x = (inr, from)
    where
      from : ⊥ ⊎ T (among same zs x) → T (among same zs x)
      from (inl t) = absurd t
      from (inr t) = t
  among-append (y ∷ ys) zs x = (
    or_elim (same y x) (among same (ys ++ zs) x) (λ t. inl (or_left (same y x) (among same ys x) t)) (λ t. to ((among-append ys zs x).0 t)),
    from (among-append ys zs x).1,
  )
    where
      to : T (among same ys x) ⊎ T (among same zs x) → T (same y x || among same ys x) ⊎ T (among same zs x)
      to (inl t) = inl (or_right (same y x) (among same ys x) t)
      to (inr t) = inr t

      from : (T (among same ys x) ⊎ T (among same zs x) → T (among same (ys ++ zs) x)) → T (same y x || among same ys x) ⊎ T (among same zs x)
          → T (same y x || among same (ys ++ zs) x)
      from ih (inl t) = or_elim (same y x) (among same ys x) (λ u. or_left (same y x) (among same (ys ++ zs) x) u)
          (λ u. or_right (same y x) (among same (ys ++ zs) x) (ih (inl u))) t
      from ih (inr t) = or_right (same y x) (among same (ys ++ zs) x) (ih (inr t))

  pub continued-among : (xs ys : List A) (x : A) → T (among same (continued same xs ys) x) ↔ (T (among same xs x) ⊎ T (among same ys x))
  unfolding continued among
  continued-among xs [] x = (inl, from)
    where
      from : T (among same xs x) ⊎ ⊥ → T (among same xs x)
      from (inl t) = t
      from (inr t) = absurd t
  continued-among xs (y ∷ ys) x = go (among same xs y) (λ t. t) (continued-among xs ys x) (continued-among (xs ++ (y ∷ [])) ys x)
    where
      Both : List A → Type 0
      Both zs = T (among same (continued same zs ys) x) ↔ (T (among same zs x) ⊎ T (among same ys x))

      later : T (among same xs x) ⊎ T (among same ys x) → T (among same xs x) ⊎ T (same y x || among same ys x)
      later (inl t) = inl t
      later (inr t) = inr (or_right (same y x) (among same ys x) t)

      sooner : T (among same xs y) → T (among same xs x) ⊎ T (same y x || among same ys x) → T (among same xs x) ⊎ T (among same ys x)
      sooner k (inl t) = inl t
      sooner k (inr t) = or_elim (same y x) (among same ys x) (λ u. inl (subst (λ z. T (among same xs z)) (is.sound y x u) k)) inr t

      onward : T (among same (xs ++ (y ∷ [])) x) ⊎ T (among same ys x) → T (among same xs x) ⊎ T (same y x || among same ys x)
      onward (inl t) = last ((among-append xs (y ∷ []) x).0 t)
        where
          last : T (among same xs x) ⊎ T (same y x || false) → T (among same xs x) ⊎ T (same y x || among same ys x)
          last (inl u) = inl u
          last (inr u) = inr (or_elim (same y x) false (λ v. or_left (same y x) (among same ys x) v) (λ v. absurd v) u)
      onward (inr t) = inr (or_right (same y x) (among same ys x) t)

      inward : T (among same xs x) ⊎ T (same y x || among same ys x) → T (among same (xs ++ (y ∷ [])) x) ⊎ T (among same ys x)
      inward (inl t) = inl ((among-append xs (y ∷ []) x).1 (inl t))
      inward (inr t) = or_elim (same y x) (among same ys x) (λ u. inl ((among-append xs (y ∷ []) x).1 (inr (or_left (same y x) false u)))) inr t

      go : (b : Bool) → (T b → T (among same xs y)) → Both xs → Both (xs ++ (y ∷ []))
          → T (among same (continued same (cond b xs (xs ++ (y ∷ []))) ys) x) ↔ (T (among same xs x) ⊎ T (same y x || among same ys x))
      go true k c d = (λ t. later (c.0 t), λ s. c.1 (sooner (k tt) s))
      go false k c d = (λ t. onward (d.0 t), λ s. d.1 (inward s))

  -- and is distinct if xs is
  pub distinct-last : (xs : List A) (y : A) → (T (among same xs y) → ⊥) → T (distinct same xs) → T (distinct same (xs ++ (y ∷ [])))
  unfolding distinct among
  distinct-last [] y f t = tt
  distinct-last (x ∷ xs) y f t =
      let c = (and-iff (not (among same xs x)) (distinct same xs)).0 t in
      (and-iff (not (among same (xs ++ (y ∷ [])) x)) (distinct same (xs ++ (y ∷ [])))).1 (
        (not_iff (among same (xs ++ (y ∷ [])) x)).1 (λ u. apart c.0 ((among-append xs (y ∷ []) x).0 u)),
        distinct-last xs y (λ u. f (or_right (same x y) (among same xs y) u)) c.1,
      )
    where
      apart : T (not (among same xs x)) → T (among same xs x) ⊎ T (same y x || false) → ⊥
      apart n (inl u) = (not_iff (among same xs x)).0 n u
      apart n (inr u) = or_elim (same y x) false
          (λ v. f (or_left (same x y) (among same xs y) (subst (λ z. T (same z y)) (is.sound y x v) (is.whole y)))) (λ v. v) u

  pub continued-distinct : (xs ys : List A) → T (distinct same xs) → T (distinct same (continued same xs ys))
  unfolding continued
  continued-distinct xs [] t = t
  continued-distinct xs (y ∷ ys) t = go (among same xs y) (λ f. f) (continued-distinct xs ys t) (continued-distinct (xs ++ (y ∷ [])) ys)
    where
      go : (b : Bool) → ((T b → ⊥) → T (among same xs y) → ⊥) → T (distinct same (continued same xs ys))
          → (T (distinct same (xs ++ (y ∷ []))) → T (distinct same (continued same (xs ++ (y ∷ [])) ys)))
          → T (distinct same (continued same (cond b xs (xs ++ (y ∷ []))) ys))
      go true k c d = c
      go false k c d = d (distinct-last xs y (k (λ u. u)) t)

  -- a list is continued by nothing where all of ys is there, by ys one after the other, and by all of ys where all of it is new
  pub continued-inside : (xs ys : List A) → ((y : A) → T (among same ys y) → T (among same xs y)) → continued same xs ys ≡ xs
  unfolding continued among
  continued-inside xs [] h = refl
  continued-inside xs (y ∷ ys) h =
      go (among same xs y) (h y (or_left (same y y) (among same ys y) (is.whole y)))
      (continued-inside xs ys (λ z t. h z (or_right (same y z) (among same ys z) t)))
    where
      go : (b : Bool) → T b → continued same xs ys ≡ xs → continued same (cond b xs (xs ++ (y ∷ []))) ys ≡ xs
      go true t e = e
      go false t e = absurd t

  pub continued-append : (xs ys zs : List A) → continued same xs (ys ++ zs) ≡ continued same (continued same xs ys) zs
  unfolding continued
  continued-append xs [] zs = refl
  continued-append xs (y ∷ ys) zs = continued-append (cond (among same xs y) xs (xs ++ (y ∷ []))) ys zs

  distinct_apart : (xs ys : List A) (y : A) → T (distinct same (xs ++ (y ∷ ys))) → T (among same xs y) → ⊥
  unfolding distinct among
  distinct_apart [] ys y t u = u
  distinct_apart (x ∷ xs) ys y t u =
      let c = (and-iff (not (among same (xs ++ (y ∷ ys)) x)) (distinct same (xs ++ (y ∷ ys)))).0 t in
      or_elim (same x y) (among same xs y)
      (λ v. (not_iff (among same (xs ++ (y ∷ ys)) x)).0 c.0
      ((among-append xs (y ∷ ys) x).1 (inr (or_left (same y x) (among same ys x) (subst (λ z. T (same z x)) (is.sound x y v) (is.whole x))))))
      (distinct_apart xs ys y c.1) u

  pub continued-new : (xs ys : List A) → T (distinct same (xs ++ ys)) → continued same xs ys ≡ xs ++ ys
  unfolding continued
  continued-new xs [] t = sym (append-nil xs)
  continued-new xs (y ∷ ys) t =
      go (among same xs y) (distinct_apart xs ys y t)
      (continued-new (xs ++ (y ∷ [])) ys (subst (λ l. T (distinct same l)) (sym (append_assoc xs (y ∷ []) ys)) t))
    where
      go : (b : Bool) → (T b → ⊥) → continued same (xs ++ (y ∷ [])) ys ≡ (xs ++ (y ∷ [])) ++ ys
          → continued same (cond b xs (xs ++ (y ∷ []))) ys ≡ xs ++ (y ∷ ys)
      go true f e = absurd (f tt)
      go false f e = e ∙ append_assoc xs (y ∷ []) ys

  -- ---- xs continued by the first i of ys, a distinct list, and by one more

  module _ (xs ys : List A) (i : ℕ) (l : i < length ys) where
    abbrev x : A
    x = get_or ys i d

    abbrev before : List A
    before = continued same xs (take i ys)

    one_more : continued same xs (take (suc i) ys) ≡ cond (among same before x) before (before ++ (x ∷ []))
    unfolding continued
    one_more = ap (continued same xs) (take-suc ys i d l) ∙ continued-append xs (take i ys) (x ∷ [])

    -- a value of xs
    pub step-old : T (among same xs x) → continued same xs (take (suc i) ys) ≡ before
    step-old t = one_more ∙ ap (λ b. cond b before (before ++ (x ∷ []))) (T_true (among same before x) ((continued-among xs (take i ys) x).1 (inl t)))

    pub place-old : T (among same xs x) → place_in same (continued same xs ys) x ≡ place_in same xs x
    place-old t = let (zs, e) = continued-is xs ys in ap (λ (l : List A). place_in same l x) e ∙ place-append xs zs x t

    -- another value
    module _ (t : T (distinct same ys)) (f : T (among same xs x) → ⊥) where
      not-before : T (among same before x) → ⊥
      not-before u = ⊎_elim f earlier ((continued-among xs (take i ys) x).0 u)
        where
          earlier : T (among same (take i ys) x) → ⊥
          earlier v =
              let (k, h, e) = (among-iff (take i ys) x).0 v in
              let m = length-take-le i ys (omega (arith, l)) in
              let k-i : k < i = omega (arith, h, m) in
              let z = (distinct-iff ys).0 t k i (omega (arith, k-i, l)) l (sym (get_or-take i ys k d k-i) ∙ e) in
              omega (arith, z, k-i)

      pub step-new : continued same xs (take (suc i) ys) ≡ before ++ (x ∷ [])
      step-new = one_more ∙ ap (λ b. cond b before (before ++ (x ∷ []))) (test-ext (among same before x) false not-before (λ u. absurd u))

      pub place-new : place_in same (continued same xs ys) x ≡ length before
      place-new =
          let (zs, e) = continued-is (before ++ (x ∷ [])) (drop (suc i) ys) in
          let whole = ap (continued same xs) (sym (take-append-drop (suc i) ys)) ∙ continued-append xs (take (suc i) ys) (drop (suc i) ys)
          ∙ ap (λ (l : List A). continued same l (drop (suc i) ys)) step-new ∙ e ∙ append_snoc before x zs in
          ap (λ (l : List A). place_in same l x) whole ∙ place-seam before x zs not-before

  pub continued-grows : (xs ys : List A) (i j : ℕ) → i ≤ j → length (continued same xs (take i ys)) ≤ length (continued same xs (take j ys))
  continued-grows xs ys i j h =
      let e = ap (continued same xs) (sym (take-append-drop i (take j ys))) ∙ continued-append xs (take i (take j ys)) (drop i (take j ys)) in
      let n = ap (λ (l : List A). length l) e in
      let f = ap (λ (l : List A). length (continued same xs l)) (take-take i j ys h) in
      let m = continued-length (continued same xs (take i (take j ys))) (drop i (take j ys)) in
      omega (arith, n, f, m)

  -- ---- what stands behind xs in xs continued by ys, distinct lists: values of ys in their order

  module _ (xs ys : List A) (tx : T (distinct same xs)) where
    abbrev C : List A
    C = continued same xs ys

    not_first : (i : ℕ) → length xs ≤ i → i < length C → T (among same xs (get_or C i d)) → ⊥
    not_first i l m u =
        let (k, h, e) = (among-iff xs (get_or C i d)).0 u in
        let z = (distinct-iff C).0 (continued-distinct xs ys tx) k i (omega (arith, h, l, m)) m (continued-at xs ys k h ∙ e) in
        omega (arith, z, h, l)

    pub continued-after : (i : ℕ) → length xs ≤ i → i < length C → (b : ℕ) × (b < length ys) × (get_or C i d ≡ get_or ys b d)
    continued-after i l m =
        ⊎_elim (λ u. absurd (not_first i l m u)) (λ u. let (b, h, e) = (among-iff ys (get_or C i d)).0 u in (b, h, sym e))
        ((continued-among xs ys (get_or C i d)).0 ((among-iff C (get_or C i d)).1 (i, m, refl)))

    module _ (ty : T (distinct same ys)) where
      -- the place of number b of ys there
      place_after : (i b : ℕ) → length xs ≤ i → i < length C → b < length ys → get_or C i d ≡ get_or ys b d → i ≡ length (continued same xs (take b ys))
      place_after i b l m h e =
          sym (place_at C (continued-distinct xs ys tx) i m) ∙ ap (place_in same C) e
          ∙ place-new xs ys b h ty (λ u. not_first i l m (subst (λ z. T (among same xs z)) (sym e) u))

      pub continued-rising : (i j b c : ℕ) → length xs ≤ i → i < j → j < length C → b < length ys → c < length ys
          → get_or C i d ≡ get_or ys b d → get_or C j d ≡ get_or ys c d → b < c
      continued-rising i j b c l h m lb lc eb ec =
          ⊎_elim (λ (k : b < c). k)
          (λ (k : c ≤ b).
          let x = place_after i b l (omega (arith, h, m)) lb eb in
          let y = place_after j c (omega (arith, l, h)) m lc ec in
          let g = continued-grows xs ys c b k in
          omega (arith, x, y, g, h)) (lt-or-ge b c)
