-- The joined labels and the joined numbers of the second's actions, one by one as code finds them; and that the disjoint union under these
-- numbers is the joined flow by name. Labels that agree by number, as the decimal names of plain sheets do, give the disjoint union by number.
use Prim.Native.Nat.{ℕ, suc, ◌+◌, ◌-◌, ◌≤◌, ◌<◌, max, zero-le, suc-le-suc}
use native.Mathlib.Omega.{arith}
use native.Mathlib.Numerals.{add-one}
use mathlib.Core.Path.{◌≡◌, refl, sym, ◌∙◌, ap, subst}
use mathlib.Core.Logic.{inl, inr, ⊎_elim, ◌↔◌}
use mathlib.Core.Bool.{false, cond, ◌&&◌}
use mathlib.Core.List.{List, [], ◌∷◌, ◌++◌}
use lib.Dec.{T, eqb, ltb, leb, eqb→eq, eqb_refl}
use lib.ListN.{length, get_or, take}
use lib.Seq.{take-length}
use Rattle.lts.specs.Bounded.{list_below}
use Rattle.lts.specs.System.{Lts, WellFormed}
use Rattle.lts.specs.Mapped.{mapped, Sends}
use Rattle.lts.specs.Places.{among, distinct, place_in, continued}
use Rattle.lts.specs.Union.{disjoint_union}
use Rattle.lts.specs.Labels.{same_label, label_of, action_of, joined_labels, joined_action, joined_second, Labels, JoinedByLabel}
use Rattle.lts.proofs.Bounded.{and-iff}
use Rattle.lts.proofs.Below.{lt-or-ge, length-list_below, get_or-list_below, list_below-add}
use Rattle.lts.proofs.Union.{union-formed, union_left, union_right, terminating-left, terminating-right}
use Rattle.lts.proofs.Mapped.{mapped-iff, mapped-formed, mapped-self, move, self-terminating}
use Rattle.lts.proofs.Places as places
use Rattle.lts.proofs.Places.{Tests}

label-sound : (x y : List ℕ) → T (same_label x y) → x ≡ y
unfolding same_label
label-sound [] [] t = refl
label-sound [] (y ∷ ys) t = absurd t
label-sound (x ∷ xs) [] t = absurd t
label-sound (x ∷ xs) (y ∷ ys) t =
    let c = (and-iff (eqb x y) (same_label xs ys)).0 t in
    ap (λ z. z ∷ xs) (eqb→eq x y c.0) ∙ ap (λ (zs : List ℕ). y ∷ zs) (label-sound xs ys c.1)

label-whole : (x : List ℕ) → T (same_label x x)
unfolding same_label
label-whole [] = tt
label-whole (x ∷ xs) = (and-iff (eqb x x) (same_label xs xs)).1 (eqb_refl x, label-whole xs)

-- the test passes exactly for equal labels
pub label-tests : Tests same_label
label-tests = record { sound = label-sound; whole = label-whole }

-- distinct labels tell the actions apart
pub label-once : (A : List (List ℕ)) → T (distinct same_label A)
    → (a b : ℕ) → 1 ≤ a → a ≤ length A → 1 ≤ b → b ≤ length A → label_of A a ≡ label_of A b → a ≡ b
unfolding label_of
label-once A t a b la ma lb mb e =
    let d = (places.distinct-iff same_label label-tests [] A).0 t (a - 1) (b - 1) (omega (arith, la, ma)) (omega (arith, lb, mb)) e in
    omega (arith, la, lb, d)

pub label-upto : (A : List (List ℕ)) (L : Lts) → Labels A L → (a : ℕ) → a ≤ L.actions → a ≤ length A
label-upto A L labels a l = let c = labels.count in omega (arith, c, l)

-- ---- the joined labels and numbers

module _ (A B : List (List ℕ)) where
  abbrev J : List (List ℕ)
  J = joined_labels A B

  -- the joined labels are distinct if the first's are
  pub joined-distinct : T (distinct same_label A) → T (distinct same_label (joined_labels A B))
  unfolding joined_labels
  joined-distinct = places.continued-distinct same_label label-tests [] A B

  -- they are at least as many as the first's, and at most as many as both's
  pub joined_length : length A ≤ length (joined_labels A B)
  unfolding joined_labels
  joined_length = places.continued-length same_label label-tests [] A B

  pub joined-most : length (joined_labels A B) ≤ length A + length B
  unfolding joined_labels
  joined-most = places.continued-most same_label label-tests [] A B

  -- what holds of each label of both holds of each joined one
  pub joined-each : (P : List ℕ → Type 0) → ((i : ℕ) → i < length A → P (get_or A i [])) → ((i : ℕ) → i < length B → P (get_or B i []))
      → (i : ℕ) → i < length (joined_labels A B) → P (get_or (joined_labels A B) i [])
  unfolding joined_labels
  joined-each P f g i l =
      let y = get_or (joined_labels A B) i [] in
      ⊎_elim (inside A f) (inside B g)
      ((places.continued-among same_label label-tests [] A B y).0 ((places.among-iff same_label label-tests [] (joined_labels A B) y).1 (i, l, refl)))
    where
      inside : (C : List (List ℕ)) → ((j : ℕ) → j < length C → P (get_or C j [])) → {y : List ℕ} → T (among same_label C y) → P y
      inside C each {y} t = let (j, k, e) = (places.among-iff same_label label-tests [] C y).0 t in subst P e (each j k)

  -- the first's actions keep their labels
  pub joined-first : (a : ℕ) → 1 ≤ a → a ≤ length A → label_of (joined_labels A B) a ≡ label_of A a
  unfolding joined_labels label_of
  joined-first a l m = places.continued-at same_label label-tests [] A B (a - 1) (omega (arith, l, m))

  joined-whole : (b : ℕ) → b < length B → (place_in same_label J (get_or B b []) < length J) × (get_or J (place_in same_label J (get_or B b [])) [] ≡ get_or B b [])
  unfolding joined_labels
  joined-whole b l =
      let there = (places.among-iff same_label label-tests [] B (get_or B b [])).1 (b, l, refl) in
      places.place-holds same_label label-tests [] J (get_or B b []) ((places.continued-among same_label label-tests [] A B (get_or B b [])).1 (inr there))

  -- the second's get joined numbers with the same labels
  pub joined-second : (b : ℕ) → 1 ≤ b → b ≤ length B
      → (1 ≤ joined_action A B b) × (joined_action A B b ≤ length (joined_labels A B)) × (label_of (joined_labels A B) (joined_action A B b) ≡ label_of B b)
  unfolding joined_action action_of label_of
  joined-second b l m =
      let h = joined-whole (b - 1) (omega (arith, l, m)) in
      let k = place_in same_label J (get_or B (b - 1) []) in
      let e : suc k - 1 ≡ k = omega arith in
      (suc-le-suc zero-le, h.0, ap (λ i. get_or J i []) e ∙ h.1)

  -- two actions get the same joined number exactly if their labels are equal: one of each system, and two of the second
  pub joined_same : T (distinct same_label A) → (a b : ℕ) → 1 ≤ a → a ≤ length A → 1 ≤ b → b ≤ length B
      → (a ≡ joined_action A B b) ↔ (label_of A a ≡ label_of B b)
  joined_same t a b la ma lb mb =
      let s = joined-second b lb mb in
      let more = joined_length in
      let first = joined-first a la ma in (
        λ e. sym first ∙ ap (label_of J) e ∙ s.2,
        λ e. label-once J (joined-distinct t) a (joined_action A B b) la (omega (arith, ma, more)) s.0 s.1 (first ∙ e ∙ sym s.2),
      )

  pub joined-twice : (b c : ℕ) → 1 ≤ b → b ≤ length B → 1 ≤ c → c ≤ length B → (joined_action A B b ≡ joined_action A B c) ↔ (label_of B b ≡ label_of B c)
  unfolding joined_action
  joined-twice b c lb mb lc mc = (
    λ e. sym (joined-second b lb mb).2 ∙ ap (label_of J) e ∙ (joined-second c lc mc).2,
    λ e. ap (action_of J) e,
  )

  -- ---- one by one: the joined labels of the first i of B, and of one more; the joined number of action i + 1

  pub joined-none : joined_labels A (take 0 B) ≡ A
  unfolding joined_labels continued
  joined-none = refl

  pub joined-all : joined_labels A (take (length B) B) ≡ joined_labels A B
  joined-all = ap (joined_labels A) (take-length B)

  pub joined-grows : (i : ℕ) → i ≤ length B → length (joined_labels A (take i B)) ≤ length (joined_labels A B)
  unfolding joined_labels
  joined-grows i l =
      let g = places.continued-grows same_label label-tests [] A B i (length B) l in
      let e = ap (λ (l : List (List ℕ)). length l) joined-all in
      omega (arith, g, e)

  module _ (i : ℕ) (l : i < length B) where
    this : label_of B (i + 1) ≡ get_or B i []
    unfolding label_of
    this = let e : i + 1 - 1 ≡ i = omega arith in ap (λ k. get_or B k []) e

    -- a label that A has
    pub joined-step-old : T (among same_label A (get_or B i [])) → joined_labels A (take (i + 1) B) ≡ joined_labels A (take i B)
    unfolding joined_labels
    joined-step-old t = ap (λ k. joined_labels A (take k B)) (add-one i) ∙ places.step-old same_label label-tests [] A B i l t

    pub joined-old : T (among same_label A (get_or B i [])) → joined_action A B (i + 1) ≡ suc (place_in same_label A (get_or B i []))
    unfolding joined_action action_of joined_labels
    joined-old t = ap (action_of J) this ∙ ap suc (places.place-old same_label label-tests [] A B i l t)

    -- a new one
    module _ (t : T (distinct same_label B)) (f : T (among same_label A (get_or B i [])) → ⊥) where
      pub joined-step-new : joined_labels A (take (i + 1) B) ≡ joined_labels A (take i B) ++ (get_or B i [] ∷ [])
      unfolding joined_labels
      joined-step-new = ap (λ k. joined_labels A (take k B)) (add-one i) ∙ places.step-new same_label label-tests [] A B i l t f

      pub joined-new : joined_action A B (i + 1) ≡ suc (length (joined_labels A (take i B)))
      unfolding joined_action action_of joined_labels
      joined-new = ap (action_of J) this ∙ ap suc (places.place-new same_label label-tests [] A B i l t f)

-- ---- the joined flow by name

module _ (A B : List (List ℕ)) (M : Lts) (wm : WellFormed M) (lb : Labels B M) where
  -- the second under the joined numbers
  pub second-sends : Sends M.states (length (joined_labels A B)) (λ p. p) (joined_action A B) M
  second-sends = record {
    state = λ _ l. l;
    action = λ b l m. let s = joined-second A B b l (label-upto B M lb b m) in (s.0, s.1);
  }

  pub second-formed : WellFormed (joined_second A B M)
  unfolding joined_second
  second-formed = mapped-formed wm second-sends

  pub second-terminating : (p : ℕ) → p < M.states → (joined_second A B M).terminating p ≡ M.terminating p
  unfolding joined_second
  second-terminating = self-terminating M.states (length (joined_labels A B)) (λ p. p) (joined_action A B) M (λ _ _. refl)

  pub second-iff : (p a r : ℕ) → T ((joined_second A B M).transition p a r) ↔ ((b : ℕ) × T (M.transition p b r) × (joined_action A B b ≡ a))
  unfolding joined_second
  second-iff p a r =
      let e = mapped-iff M.states (length (joined_labels A B)) (λ p. p) (joined_action A B) M wm p a r in (
        λ u. let (q, b, s, v, eq, eb, es) = e.0 u in (b, move M eq refl es v, eb),
        λ (b, v, eb). e.1 (p, b, r, v, refl, eb, refl),
      )

module _ (A B : List (List ℕ)) (L M : Lts) (wl : WellFormed L) (wm : WellFormed M) (la : Labels A L) (lb : Labels B M) where
  pub joined-formed : WellFormed (disjoint_union L (joined_second A B M))
  joined-formed = union-formed L (joined_second A B M) wl (second-formed A B M wm lb)

  -- it has as many actions as joined labels
  pub joined-actions : (disjoint_union L (joined_second A B M)).actions ≡ length (joined_labels A B)
  unfolding disjoint_union joined_second mapped
  joined-actions = let l = joined_length A B in let c = la.count in omega (arith, l, c)

  pub joined-labels : Labels (joined_labels A B) (disjoint_union L (joined_second A B M))
  joined-labels = record { count = sym joined-actions; once = joined-distinct A B la.once }

  second-moves : (p a t : ℕ)
      → T ((disjoint_union L (joined_second A B M)).transition (L.states + p) a t)
      ↔ ((b r : ℕ) × T (M.transition p b r) × (label_of (joined_labels A B) a ≡ label_of B b) × (1 ≤ a) × (a ≤ length (joined_labels A B))
      × (t ≡ L.states + r))
  second-moves p a t = (
    λ u.
        let (r, v, e) = (union_right L (joined_second A B M) p a t).0 u in
        let (b, w, f) = (second-iff A B M wm lb p a r).0 v in
        let s = number b r w in
        (b, r, w, ap (label_of (joined_labels A B)) (sym f) ∙ s.2, omega (arith, f, s.0), omega (arith, f, s.1), e),
    λ (b, r, w, e, l, m, et).
        let s = number b r w in
        let f = label-once (joined_labels A B) (joined-distinct A B la.once) (joined_action A B b) a s.0 s.1 l m (s.2 ∙ sym e) in
        (union_right L (joined_second A B M) p a t).1 (r, (second-iff A B M wm lb p a r).1 (b, w, f), et),
  )
    where
      number : (b r : ℕ) → T (M.transition p b r)
          → (1 ≤ joined_action A B b) × (joined_action A B b ≤ length (joined_labels A B)) × (label_of (joined_labels A B) (joined_action A B b) ≡ label_of B b)
      number b r w = let l = wm.action p b r w in joined-second A B b l.0 (label-upto B M lb b l.1)

  -- the disjoint union under the joined numbers is the joined flow by name
  pub joined-by-label : JoinedByLabel A L B M (joined_labels A B) (disjoint_union L (joined_second A B M))
  unfolding joined_labels disjoint_union joined_second mapped
  joined-by-label = record {
    states = refl;
    actions = joined-actions;
    front = λ i l. let m = joined_length A B in (omega (arith, l, m), places.continued-at same_label label-tests [] A B i l);
    new = places.continued-after same_label label-tests [] A B la.once;
    rising = places.continued-rising same_label label-tests [] A B la.once lb.once;
    whole = λ b l. let h = joined-whole A B b l in (place_in same_label (joined_labels A B) (get_or B b []), h.0, h.1);
    once = (places.distinct-iff same_label label-tests [] (joined_labels A B)).0 (joined-distinct A B la.once);
    first_ends = terminating-left L (joined_second A B M);
    second_ends = λ p l. terminating-right L (joined_second A B M) p ∙ second-terminating A B M wm lb p l;
    first_moves = λ p a t l. let e = union_left L (joined_second A B M) p a t l in (λ u. subst T e u, λ u. subst T (sym e) u);
    second_moves = λ p a t _. second-moves p a t;
  }

-- ---- labels d 0, d 1, .. by number, as the decimal names of a plain sheet are

-- the joined labels where those of one system begin with those of the other
joined-longer : (A B C : List (List ℕ)) → T (distinct same_label B) → B ≡ A ++ C → joined_labels A B ≡ B
unfolding joined_labels
joined-longer A B C t e =
    ap (continued same_label A) e ∙ places.continued-append same_label label-tests [] A A C
    ∙ ap (λ (l : List (List ℕ)). continued same_label l C) (places.continued-inside same_label label-tests [] A A (λ _ u. u))
    ∙ places.continued-new same_label label-tests [] A C (subst (λ (l : List (List ℕ)). T (distinct same_label l)) e t) ∙ sym e

joined-shorter : (A B C : List (List ℕ)) → A ≡ B ++ C → joined_labels A B ≡ A
unfolding joined_labels
joined-shorter A B C e =
    places.continued-inside same_label label-tests [] A B
    (λ y t. subst (λ (l : List (List ℕ)). T (among same_label l y)) (sym e) ((places.among-append same_label label-tests [] B C y).1 (inl t)))

module _ (d : ℕ → List ℕ) where
  pub numbered-distinct : (m : ℕ) → ((i j : ℕ) → i < m → j < m → d i ≡ d j → i ≡ j) → T (distinct same_label (list_below m d))
  numbered-distinct m once =
      (places.distinct-iff same_label label-tests [] (list_below m d)).1
      (λ i j l o e. once i j (at i l) (at j o) (sym (get_or-list_below [] m d i (at i l)) ∙ e ∙ get_or-list_below [] m d j (at j o)))
    where
      at : (i : ℕ) → i < length (list_below m d) → i < m
      at i l = let n = length-list_below m d in omega (arith, n, l)

  pub numbered-labels : (L : Lts) → ((i j : ℕ) → i < L.actions → j < L.actions → d i ≡ d j → i ≡ j) → Labels (list_below L.actions d) L
  numbered-labels L once = record { count = length-list_below L.actions d; once = numbered-distinct L.actions once }

  numbered-at : (m b : ℕ) → 1 ≤ b → b ≤ m → label_of (list_below m d) b ≡ d (b - 1)
  unfolding label_of
  numbered-at m b l h = get_or-list_below [] m d (b - 1) (omega (arith, l, h))

  begins : (i j : ℕ) → i ≤ j → list_below j d ≡ list_below i d ++ list_below (j - i) (λ k. d (i + k))
  begins i j h = let e : j ≡ i + (j - i) = omega (arith, h) in ap (λ (k : ℕ). list_below k d) e ∙ list_below-add i (j - i) d

  module _ (l m : ℕ) (once : (i j : ℕ) → i < max l m → j < max l m → d i ≡ d j → i ≡ j) where
    -- the joined labels are those of the one that has more, and the second's actions keep their numbers
    pub numbered-joined : joined_labels (list_below l d) (list_below m d) ≡ list_below (max l m) d
    numbered-joined =
        ⊎_elim
        (λ (h : l < m).
        let e : max l m ≡ m = omega (arith, h) in
        let t = numbered-distinct m (λ i j li lj. once i j (omega (arith, h, li)) (omega (arith, h, lj))) in
        joined-longer (list_below l d) (list_below m d) (list_below (m - l) (λ k. d (l + k))) t (begins l m (omega (arith, h)))
        ∙ ap (λ (k : ℕ). list_below k d) (sym e))
        (λ (h : m ≤ l).
        let e : max l m ≡ l = omega (arith, h) in
        joined-shorter (list_below l d) (list_below m d) (list_below (l - m) (λ k. d (m + k))) (begins m l h) ∙ ap (λ (k : ℕ). list_below k d) (sym e))
        (lt-or-ge l m)

    pub numbered-action : (b : ℕ) → 1 ≤ b → b ≤ m → joined_action (list_below l d) (list_below m d) b ≡ b
    numbered-action b h k =
        let A = list_below l d in
        let B = list_below m d in
        let long = length-list_below m d in
        let s = joined-second A B b h (omega (arith, long, k)) in
        let n = ap (λ (x : List (List ℕ)). length x) numbered-joined ∙ length-list_below (max l m) d in
        let t = joined-distinct A B (numbered-distinct l (λ i j li lj. once i j (omega (arith, li)) (omega (arith, lj)))) in
        let e = ap (λ (x : List (List ℕ)). label_of x b) numbered-joined ∙ numbered-at (max l m) b h (omega (arith, k)) ∙ sym (numbered-at m b h k) in
        label-once (joined_labels A B) t (joined_action A B b) b s.0 s.1 h (omega (arith, n, k)) (s.2 ∙ sym e)

-- so the joined flow of two systems with such labels is the disjoint union by number, as document 01 says
pub numbered-plain : (d : ℕ → List ℕ) (L M : Lts) → WellFormed M → ((p : ℕ) → M.states ≤ p → M.terminating p ≡ false)
    → ((i j : ℕ) → i < max L.actions M.actions → j < max L.actions M.actions → d i ≡ d j → i ≡ j)
    → disjoint_union L (joined_second (list_below L.actions d) (list_below M.actions d) M) ≡ disjoint_union L M
unfolding disjoint_union joined_second mapped
numbered-plain d L M wf ends once = λ i.
    record {
      states = L.states + M.states;
      actions = actions i;
      terminating = λ p. cond (ltb p L.states) (L.terminating p) ((same i).terminating (p - L.states));
      transition = λ p a t. cond (ltb p L.states) (L.transition p a t) (leb L.states t && (same i).transition (p - L.states) a (t - L.states));
    }
  where
    A : List (List ℕ)
    A = list_below L.actions d

    B : List (List ℕ)
    B = list_below M.actions d

    actions : max L.actions (length (joined_labels A B)) ≡ max L.actions M.actions
    actions =
        let n = ap (λ (x : List (List ℕ)). length x) (numbered-joined d L.actions M.actions once) ∙ length-list_below _ d in
        omega (arith, n)

    same : mapped M.states M.actions (λ p. p) (joined_action A B) M ≡ M
    same = mapped-self M wf ends (λ p. p) (joined_action A B) (λ _ _. refl) (numbered-action d L.actions M.actions once)
