-- The image of a system: its transitions and terminating states are images of the system's; it is well formed, and has no more transitions.
-- Maps that keep every number give the system itself, and the rows of a disjoint union are rows of images.
use Prim.Native.Nat.{ℕ, zero, suc, ◌+◌, ◌-◌, ◌≤◌, ◌<◌}
use native.Mathlib.Omega.{arith}
use native.Mathlib.Nat.{not-suc-le-zero}
use mathlib.Core.Path.{◌≡◌, refl, sym, ◌∙◌, ap, ap₂, subst, fun_ext}
use mathlib.Core.Logic.{◌↔◌, ⊎_elim}
use mathlib.Core.Bool.{Bool, false, ◌&&◌, ◌||◌, and-false}
use mathlib.Core.List.{List, [], ◌∷◌}
use lib.Dec.{T, eqb, leb, eqb→eq, leb→le, le→leb}
use lib.ListN.{length}
use borrow.Author.Tests.{lt-ltb, le-ltb, ne_eqb}
use Rattle.lts.specs.Bounded.{sum_below, count_below}
use Rattle.lts.specs.System.{Lts, WellFormed, any_state, any_action, into}
use Rattle.lts.specs.Transitions.{Transition, transitions}
use Rattle.lts.specs.Union.{disjoint_union}
use Rattle.lts.specs.Mapped.{mapped, Sends}
use Rattle.lts.proofs.Bounded.{and-iff, eq→eqb, test-ext, or_left, or_right}
use Rattle.lts.proofs.Count.{sum-le, sum-two, sum-single, count-le, one-most, one-or}
use Rattle.lts.proofs.Transitions.{nth, placed, of-sum, all-sum}
use Rattle.lts.proofs.Below.{lt-or-ge, T_true, any-cong, sum-cong, sum-zero}
use Rattle.lts.proofs.System.{into-to, into-from, any-action-to, any-action-from, any-state-iff}

module _ (n m : ℕ) (f g : ℕ → ℕ) (L : Lts) where
  -- the transitions of the image are the images of transitions
  pub mapped-iff : WellFormed L → (i a j : ℕ)
      → T ((mapped n m f g L).transition i a j) ↔ ((p b t : ℕ) × T (L.transition p b t) × (f p ≡ i) × (g b ≡ a) × (f t ≡ j))
  unfolding mapped
  mapped-iff wf i a j = (to, from)
    where
      by : ℕ → ℕ → Bool
      by p b = eqb (g b) a && into L b (λ t. eqb (f t) j) p

      at : ℕ → Bool
      at p = eqb (f p) i && any_action L (by p)

      to : T (any_state L at) → (p b t : ℕ) × T (L.transition p b t) × (f p ≡ i) × (g b ≡ a) × (f t ≡ j)
      to u =
          let p = (any-state-iff L at).0 u in
          let c = (and-iff (eqb (f p.0) i) (any_action L (by p.0))).0 p.2 in
          let b = any-action-to L (by p.0) c.1 in
          let d = (and-iff (eqb (g b.0) a) (into L b.0 (λ t. eqb (f t) j) p.0)).0 b.1 in
          let t = into-to L b.0 (λ t. eqb (f t) j) p.0 d.1 in
          (p.0, b.0, t.0, t.1, eqb→eq (f p.0) i c.0, eqb→eq (g b.0) a d.0, eqb→eq (f t.0) j t.2)

      from : ((p b t : ℕ) × T (L.transition p b t) × (f p ≡ i) × (g b ≡ a) × (f t ≡ j)) → T (any_state L at)
      from (p, b, t, u, ep, eb, et) =
          let d = into-from wf b (λ t. eqb (f t) j) p (t, u, eq→eqb (f t) j et) in
          let c = any-action-from L (by p) b (wf.action p b t u) ((and-iff (eqb (g b) a) (into L b (λ t. eqb (f t) j) p)).1 (eq→eqb (g b) a eb, d)) in
          (any-state-iff L at).1 (p, wf.source p b t u, (and-iff (eqb (f p) i) (any_action L (by p))).1 (eq→eqb (f p) i ep, c))

  -- and its terminating states the images of terminating states
  pub mapped-terminating-iff : (i : ℕ) → T ((mapped n m f g L).terminating i) ↔ ((p : ℕ) × (p < L.states) × T (L.terminating p) × (f p ≡ i))
  unfolding mapped
  mapped-terminating-iff i = (
    λ u. let p = (any-state-iff L at).0 u in
        let c = (and-iff (eqb (f p.0) i) (L.terminating p.0)).0 p.2 in
        (p.0, p.1, c.1, eqb→eq (f p.0) i c.0),
    λ (p, l, u, e). (any-state-iff L at).1 (p, l, (and-iff (eqb (f p) i) (L.terminating p)).1 (eq→eqb (f p) i e, u)),
  )
    where
      at : ℕ → Bool
      at p = eqb (f p) i && L.terminating p

-- ---- the image is well formed

module _ {n m : ℕ} {f g : ℕ → ℕ} {L : Lts} where
  pub mapped-formed : WellFormed L → Sends n m f g L → WellFormed (mapped n m f g L)
  unfolding mapped
  mapped-formed wf new = record {
    source = λ i a j u.
        let (p, b, t, v, ep, eb, et) = (mapped-iff n m f g L wf i a j).0 u in
        subst (λ (x : ℕ). x < n) ep (new.state p (wf.source p b t v));
    action = λ i a j u.
        let (p, b, t, v, ep, eb, et) = (mapped-iff n m f g L wf i a j).0 u in
        let l = wf.action p b t v in
        subst (λ (x : ℕ). (1 ≤ x) × (x ≤ m)) eb (new.action b l.0 l.1);
    target = λ i a j u.
        let (p, b, t, v, ep, eb, et) = (mapped-iff n m f g L wf i a j).0 u in
        subst (λ (x : ℕ). x < n) et (new.state t (wf.target p b t v));
  }

  -- no number outside its states is terminating
  pub mapped-ends : Sends n m f g L → (i : ℕ) → n ≤ i → (mapped n m f g L).terminating i ≡ false
  mapped-ends new i l =
      test-ext ((mapped n m f g L).terminating i) false
      (λ u. let (p, k, v, e) = (mapped-terminating-iff n m f g L i).0 u in let h = new.state p k in omega (arith, h, e, l)) (λ u. absurd u)

-- ---- maps that agree on the states and the actions give one image

pub mapped-cong : (n m : ℕ) (f g f' g' : ℕ → ℕ) (L : Lts) → ((p : ℕ) → p < L.states → f p ≡ f' p)
    → ((a : ℕ) → 1 ≤ a → a ≤ L.actions → g a ≡ g' a) → mapped n m f g L ≡ mapped n m f' g' L
unfolding mapped any_state any_action into
mapped-cong n m f g f' g' L states actions = λ x.
    record {
      states = n;
      actions = m;
      terminating = fun_ext (λ i. any-cong L.states _ _ (λ p l. ap (λ (b : Bool). b && L.terminating p) (at p i l))) x;
      transition = fun_ext (λ i. fun_ext (λ a. fun_ext (λ j. any-cong L.states _ _ (λ p l. ap₂ ◌&&◌ (at p i l) (row p a j))))) x;
    }
  where
    at : (p i : ℕ) → p < L.states → eqb (f p) i ≡ eqb (f' p) i
    at p i l = ap (λ (y : ℕ). eqb y i) (states p l)

    row : (p a j : ℕ) → any_action L (λ b. eqb (g b) a && into L b (λ t. eqb (f t) j) p) ≡ any_action L (λ b. eqb (g' b) a && into L b (λ t. eqb (f' t) j) p)
    row p a j =
        any-cong L.actions _ _ (λ b l. ap₂ ◌&&◌ (ap (λ (y : ℕ). eqb y a) (actions (suc b) (omega arith) l))
        (any-cong L.states _ _ (λ t k. ap (λ (y : Bool). L.transition p (suc b) t && y) (at t j k))))

-- ---- the image of an image is the image under the composed maps

module _ (n m : ℕ) (f g : ℕ → ℕ) {k l : ℕ} {f' g' : ℕ → ℕ} {L : Lts} (wf : WellFormed L) (ok : Sends k l f' g' L) where
  abbrev inner : Lts
  inner = mapped k l f' g' L

  abbrev direct : Lts
  direct = mapped n m (λ p. f (f' p)) (λ b. g (g' b)) L

  composed-transition : (i a j : ℕ) → (mapped n m f g inner).transition i a j ≡ direct.transition i a j
  composed-transition i a j =
      test-ext ((mapped n m f g inner).transition i a j) (direct.transition i a j)
      (λ u.
      let (p, b, t, v, ep, eb, et) = (mapped-iff n m f g inner (mapped-formed wf ok) i a j).0 u in
      let (q, c, r, w, eq, ec, er) = (mapped-iff k l f' g' L wf p b t).0 v in
      (mapped-iff n m (λ p. f (f' p)) (λ b. g (g' b)) L wf i a j).1 (q, c, r, w, ap f eq ∙ ep, ap g ec ∙ eb, ap f er ∙ et))
      (λ u.
      let (q, c, r, w, ep, eb, et) = (mapped-iff n m (λ p. f (f' p)) (λ b. g (g' b)) L wf i a j).0 u in
      let v = (mapped-iff k l f' g' L wf (f' q) (g' c) (f' r)).1 (q, c, r, w, refl, refl, refl) in
      (mapped-iff n m f g inner (mapped-formed wf ok) i a j).1 (f' q, g' c, f' r, v, ep, eb, et))

  composed-terminating : (i : ℕ) → (mapped n m f g inner).terminating i ≡ direct.terminating i
  unfolding mapped
  composed-terminating i =
      test-ext ((mapped n m f g inner).terminating i) (direct.terminating i)
      (λ u.
      let (p, _, v, ep) = (mapped-terminating-iff n m f g inner i).0 u in
      let (q, low, w, eq) = (mapped-terminating-iff k l f' g' L p).0 v in
      (mapped-terminating-iff n m (λ p. f (f' p)) (λ b. g (g' b)) L i).1 (q, low, w, ap f eq ∙ ep))
      (λ u.
      let (q, low, w, ep) = (mapped-terminating-iff n m (λ p. f (f' p)) (λ b. g (g' b)) L i).0 u in
      let v = (mapped-terminating-iff k l f' g' L (f' q)).1 (q, low, w, refl) in
      (mapped-terminating-iff n m f g inner i).1 (f' q, ok.state q low, v, ep))

  pub mapped-composed : mapped n m f g (mapped k l f' g' L) ≡ mapped n m (λ p. f (f' p)) (λ b. g (g' b)) L
  unfolding mapped
  mapped-composed = λ x.
      record {
        states = n;
        actions = m;
        terminating = fun_ext composed-terminating x;
        transition = fun_ext (λ i. fun_ext (λ a. fun_ext (composed-transition i a))) x;
      }

-- ---- maps that keep every number

pub move : (L : Lts) {p b r i a t : ℕ} → p ≡ i → b ≡ a → r ≡ t → T (L.transition p b r) → T (L.transition i a t)
move L ep eb er u = rw (← ep, ← eb, ← er) u

module _ (n m : ℕ) (f g : ℕ → ℕ) (L : Lts) (states : (p : ℕ) → p < L.states → f p ≡ p) where
  self-transition : WellFormed L → ((a : ℕ) → 1 ≤ a → a ≤ L.actions → g a ≡ a) → (i a t : ℕ) → (mapped n m f g L).transition i a t ≡ L.transition i a t
  self-transition wf actions i a t =
      test-ext ((mapped n m f g L).transition i a t) (L.transition i a t)
      (λ u.
      let (p, b, r, v, ep, eb, er) = (mapped-iff n m f g L wf i a t).0 u in
      let l = wf.action p b r v in
      let dp = sym (states p (wf.source p b r v)) ∙ ep in
      let db = sym (actions b l.0 l.1) ∙ eb in
      let dr = sym (states r (wf.target p b r v)) ∙ er in
      move L dp db dr v)
      (λ u.
      let l = wf.action i a t u in
      (mapped-iff n m f g L wf i a t).1 (i, a, t, u, states i (wf.source i a t u), actions a l.0 l.1, states t (wf.target i a t u)))

  pub self-terminating : (i : ℕ) → i < L.states → (mapped n m f g L).terminating i ≡ L.terminating i
  self-terminating i l =
      test-ext ((mapped n m f g L).terminating i) (L.terminating i)
      (λ u. let (p, k, v, e) = (mapped-terminating-iff n m f g L i).0 u in let d = sym (states p k) ∙ e in rw (← d) v)
      (λ u. (mapped-terminating-iff n m f g L i).1 (i, l, u, states i l))

pub mapped-self : (L : Lts) → WellFormed L → ((p : ℕ) → L.states ≤ p → L.terminating p ≡ false) → (f g : ℕ → ℕ)
    → ((p : ℕ) → p < L.states → f p ≡ p) → ((a : ℕ) → 1 ≤ a → a ≤ L.actions → g a ≡ a) → mapped L.states L.actions f g L ≡ L
unfolding mapped
mapped-self L wf ends f g states actions = λ x.
    record {
      states = L.states;
      actions = L.actions;
      terminating = fun_ext mark x;
      transition = fun_ext (λ i. fun_ext (λ a. fun_ext (λ t. self-transition L.states L.actions f g L states wf actions i a t))) x;
    }
  where
    new : Sends L.states L.actions f g L
    new = record {
      state = λ p l. rw (states p l) l;
      action = λ a l k. rw (actions a l k) (l, k);
    }

    mark : (i : ℕ) → (mapped L.states L.actions f g L).terminating i ≡ L.terminating i
    mark i =
        ⊎_elim (self-terminating L.states L.actions f g L states i)
        (λ (l : L.states ≤ i). mapped-ends new i l ∙ sym (ends i l)) (lt-or-ge i L.states)

-- ---- the rows of a disjoint union

module _ (n m : ℕ) (f g : ℕ → ℕ) (L M : Lts) where
  pub union-first-row : WellFormed L → ((p : ℕ) → p < L.states → f p ≡ p) → ((a : ℕ) → 1 ≤ a → a ≤ L.actions → g a ≡ a)
      → (i a t : ℕ) → i < L.states → (disjoint_union L M).transition i a t ≡ (mapped n m f g L).transition i a t
  unfolding disjoint_union
  union-first-row wf states actions i a t l = rw (lt-ltb i L.states l) (sym (self-transition n m f g L states wf actions i a t))

  pub union-first-terminating : ((p : ℕ) → p < L.states → f p ≡ p) → (i : ℕ) → i < L.states
      → (disjoint_union L M).terminating i ≡ (mapped n m f g L).terminating i
  unfolding disjoint_union
  union-first-terminating states i l = rw (lt-ltb i L.states l) (sym (self-terminating n m f g L states i l))

  pub union-second-row : WellFormed M → ((p : ℕ) → p < M.states → f p ≡ L.states + p) → ((a : ℕ) → 1 ≤ a → a ≤ M.actions → g a ≡ a)
      → (i a t : ℕ) → L.states ≤ i → (disjoint_union L M).transition i a t ≡ (mapped n m f g M).transition i a t
  unfolding disjoint_union
  union-second-row wf states actions i a t l =
      rw (le-ltb i L.states l) (test-ext (leb L.states t && M.transition (i - L.states) a (t - L.states)) ((mapped n m f g M).transition i a t)
      (λ u.
      let (k, v) = (and-iff (leb L.states t) (M.transition (i - L.states) a (t - L.states))).0 u in
      let up = leb→le L.states t k in
      let c = wf.action _ a _ v in
      let ep = states (i - L.states) (wf.source _ a _ v) in
      let et = states (t - L.states) (wf.target _ a _ v) in
      (mapped-iff n m f g M wf i a t).1 (i - L.states, a, t - L.states, v, omega (arith, ep, l), actions a c.0 c.1, omega (arith, et, up)))
      (λ u.
      let (p, b, r, v, ep, eb, er) = (mapped-iff n m f g M wf i a t).0 u in
      let c = wf.action p b r v in
      let dp : p ≡ i - L.states = omega (arith, ep, states p (wf.source p b r v)) in
      let db : b ≡ a = sym (actions b c.0 c.1) ∙ eb in
      let dr : r ≡ t - L.states = omega (arith, er, states r (wf.target p b r v)) in
      let up : L.states ≤ t = omega (arith, er, states r (wf.target p b r v)) in
      (and-iff (leb L.states t) (M.transition (i - L.states) a (t - L.states))).1 (le→leb L.states t up, move M dp db dr v)))

  pub union-second-terminating : ((p : ℕ) → p < M.states → f p ≡ L.states + p) → (i : ℕ) → L.states ≤ i → i < L.states + M.states
      → (disjoint_union L M).terminating i ≡ (mapped n m f g M).terminating i
  unfolding disjoint_union
  union-second-terminating states i l h =
      rw (le-ltb i L.states l) (test-ext (M.terminating (i - L.states)) ((mapped n m f g M).terminating i)
      (λ u.
      let k : i - L.states < M.states = omega arith in
      let e = states (i - L.states) k in
      (mapped-terminating-iff n m f g M i).1 (i - L.states, k, u, omega (arith, e, l)))
      (λ u.
      let (p, k, v, e) = (mapped-terminating-iff n m f g M i).0 u in
      let d : p ≡ i - L.states = omega (arith, e, states p k) in
      rw (← d) v))

-- ---- the image has no more transitions

module _ (n m : ℕ) where
  -- how many triples pass a test, by source, action and target
  abbrev size : (ℕ → ℕ → ℕ → Bool) → ℕ
  size h = sum_below n (λ i. sum_below m (λ a. count_below n (h i (suc a))))

  size_none : size (λ i a j. false) ≡ 0
  unfolding count_below
  size_none = sum-zero n _ (λ i _. sum-zero m _ (λ a _. sum-zero n _ (λ j _. refl)))

  size-or : (h k : ℕ → ℕ → ℕ → Bool) → size (λ i a j. h i a j || k i a j) ≤ size h + size k
  unfolding count_below
  size-or h k = sum-two n _ _ _ (λ i _. sum-two m _ _ _ (λ a _. sum-two n _ _ _ (λ j _. one-or (h i (suc a) j) (k i (suc a) j))))

  size-le : (h k : ℕ → ℕ → ℕ → Bool) → ((i a j : ℕ) → T (h i a j) → T (k i a j)) → size h ≤ size k
  size-le h k e = sum-le n _ _ (λ i _. sum-le m _ _ (λ a _. count-le n (h i (suc a)) (k i (suc a)) (λ j _. e i (suc a) j)))

module _ (f g : ℕ → ℕ) where
  -- i, a, j is the image of x, and of some transition of the list
  abbrev image : Transition → ℕ → ℕ → ℕ → Bool
  image x i a j = eqb (f x.source) i && (eqb (g x.action) a && eqb (f x.target) j)

  abbrev images : List Transition → ℕ → ℕ → ℕ → Bool
  images [] i a j = false
  images (x ∷ l) i a j = image x i a j || images l i a j

  images-at : (l : List Transition) (k i a j : ℕ) → k < length l → T (image (nth l k) i a j) → T (images l i a j)
  unfolding nth
  images-at [] k i a j h u = absurd (not-suc-le-zero h)
  images-at (x ∷ l) zero i a j h u = or_left (image x i a j) (images l i a j) u
  images-at (x ∷ l) (suc k) i a j h u = or_right (image x i a j) (images l i a j) (images-at l k i a j (omega arith) u)

  -- a transition has one image, so a list of them has no more images than elements
  size-image : (n m : ℕ) (x : Transition) → size n m (image x) ≤ 1
  unfolding count_below
  size-image n m x =
      sum-single n (f x.source) 1 _ source (λ i e. sum-zero m _ (λ a _. sum-zero n _ (λ j _. rw (ne_eqb (f x.source) i (λ q. e (sym q))))))
    where
      target : (i a : ℕ) → count_below n (image x i a) ≤ 1
      target i a =
          sum-single n (f x.target) 1 _ (one-most (image x i a (f x.target)))
          (λ j e. rw (ne_eqb (f x.target) j (λ q. e (sym q)), and-false, and-false))

      source : sum_below m (λ a. count_below n (image x (f x.source) (suc a))) ≤ 1
      source =
          sum-single m (g x.action - 1) 1 _ (target _ _)
          (λ a e. sum-zero n _ (λ j _. rw (ne_eqb (g x.action) (suc a) (λ q. e (omega (arith, q))), and-false)))

  size-images : (n m : ℕ) (l : List Transition) → size n m (images l) ≤ length l
  size-images n m [] = omega (arith, size_none n m)
  size-images n m (x ∷ l) = omega (arith, size-or n m (image x) (images l), size-image n m x, size-images n m l)

module _ (n m : ℕ) (f g : ℕ → ℕ) (L : Lts) (wf : WellFormed L) where
  -- every transition of the image is the image of one in the list of L's
  listed : (p b t i a j : ℕ) → T (L.transition p b t) → f p ≡ i → g b ≡ a → f t ≡ j → T (images f g (transitions L) i a j)
  unfolding transitions
  listed p zero t i a j u ep eb et = absurd (not-suc-le-zero (wf.action p 0 t u).0)
  listed p (suc b) t i a j u ep eb et =
      let one = T_true (L.transition p (suc b) t) u in
      let (k, l, e) = placed L p b t (wf.action p (suc b) t u).1 (wf.target p (suc b) t u) one L.states (wf.source p (suc b) t u) in
      images-at f g (transitions L) k i a j l
      (rw e ((and-iff (eqb (f p) i) (eqb (g (suc b)) a && eqb (f t) j)).1
      (eq→eqb (f p) i ep, (and-iff (eqb (g (suc b)) a) (eqb (f t) j)).1 (eq→eqb (g (suc b)) a eb, eq→eqb (f t) j et))))

  pub mapped-count : length (transitions (mapped n m f g L)) ≤ length (transitions L)
  unfolding mapped
  mapped-count =
      let e = all-sum (mapped n m f g L) ∙ sum-cong n _ _ (λ i _. of-sum (mapped n m f g L) i) in
      let most = size-le n m (mapped n m f g L).transition (images f g (transitions L)) (λ i a j u.
      let (p, b, t, v, ep, eb, et) = (mapped-iff n m f g L wf i a j).0 u in
      listed p b t i a j v ep eb et) in
      omega (arith, e, most, size-images f g n m (transitions L))
