-- A strategy that is accepted holds only dropped pairs, and the strategy that is written for a dropped pair is accepted.
use Prim.Native.Nat.{ℕ, zero, suc, ◌≤◌, ◌<◌}
use native.Mathlib.Nat.{not-suc-le-zero, le_step, lt_of_le_of_lt, lt-suc_self}
use native.Mathlib.Numerals.{add-one}
use mathlib.Core.Path.{◌≡◌, refl, sym, ◌∙◌, ap, subst}
use mathlib.Core.Logic.{◌⊎◌, inl, inr}
use mathlib.Core.Bool.{Bool, true, false, cond, not, ◌&&◌, ◌||◌}
use mathlib.Core.List.{List, [], ◌∷◌, ◌++◌, reverse_aux}
use lib.Dec.{T, eqb, ltb, eqb→eq, eqb_refl, lt→ltb, ltb→lt}
use lib.ListN.{length, length-append}
use Rattle.lts.specs.Bounded.{◌⇒◌, any_below, count_below, concat_below, lowest}
use Rattle.lts.specs.System.{Rel, Lts, WellFormed, all_states, any_state, into, Relation, Simulation}
use Rattle.lts.specs.Rounds.{round, refuted_at, refutation_round}
use Rattle.lts.specs.declared.Entry.{Entry}
use Rattle.lts.specs.Strategy.{holds, sound, all_sound, unanswered, entry_at, entries_in, entries_before, strategy_at, strategy, strategy_length, refuted_count, accepted, last_of, entries_of, entry_numbers}
use Rattle.lts.proofs.Bounded.{and-iff, not_iff, imp-iff, dec, or_elim, or_left, or_right, below_suc, any-iff}
use Rattle.lts.proofs.Count.{lowest-passes, sum-cong, length-concat}
use Rattle.lts.proofs.System.{into-to, into-from, any-state-iff, all-state-iff}
use Rattle.lts.proofs.Step.{On}
use Rattle.lts.proofs.Rounds.{first-iff, next-iff, refuted-by, refuted-out}

-- ---- what a list holds

pub holds-cons : (e : Entry) (es : List Entry) (p q : ℕ) → T (holds (e ∷ es) p q) → ((e.p ≡ p) × (e.q ≡ q)) ⊎ T (holds es p q)
unfolding holds
holds-cons e es p q t =
    or_elim (eqb e.p p && eqb e.q q) (holds es p q)
    (λ c. let d = (and-iff (eqb e.p p) (eqb e.q q)).0 c in inl (eqb→eq e.p p d.0, eqb→eq e.q q d.1)) (λ c. inr c) t

pub holds-here : (e : Entry) (es : List Entry) → T (holds (e ∷ es) e.p e.q)
unfolding holds
holds-here e es = or_left (eqb e.p e.p && eqb e.q e.q) (holds es e.p e.q) ((and-iff (eqb e.p e.p) (eqb e.q e.q)).1 (eqb_refl e.p, eqb_refl e.q))

pub holds_later : (e : Entry) (es : List Entry) (p q : ℕ) → T (holds es p q) → T (holds (e ∷ es) p q)
unfolding holds
holds_later e es p q t = or_right (eqb e.p p && eqb e.q q) (holds es p q) t

pub holds-none : (p q : ℕ) → T (holds [] p q) → ⊥
unfolding holds
holds-none p q t = t

-- to be held by xs is to be held by ys
abbrev Covers : List Entry → List Entry → Type 0
Covers ys xs = (p q : ℕ) → T (holds xs p q) → T (holds ys p q)

holds-append-left : (xs ys : List Entry) → Covers (xs ++ ys) xs
unfolding holds
holds-append-left [] ys p q t = absurd t
holds-append-left (e ∷ xs) ys p q t =
    or_elim (eqb e.p p && eqb e.q q) (holds xs p q) (or_left (eqb e.p p && eqb e.q q) (holds (xs ++ ys) p q))
    (λ u. or_right (eqb e.p p && eqb e.q q) (holds (xs ++ ys) p q) (holds-append-left xs ys p q u)) t

holds-append-right : (xs ys : List Entry) → Covers (xs ++ ys) ys
holds-append-right [] ys p q t = t
holds-append-right (e ∷ xs) ys p q t = holds_later e (xs ++ ys) p q (holds-append-right xs ys p q t)

holds_kept : (xs ys : List Entry) → Covers (reverse_aux xs ys) ys
holds_kept [] ys p q t = t
holds_kept (e ∷ xs) ys p q t = holds_kept xs (e ∷ ys) p q (holds_later e ys p q t)

holds-reversed : (xs ys : List Entry) → Covers (reverse_aux xs ys) xs
unfolding holds
holds-reversed [] ys p q t = absurd t
holds-reversed (e ∷ xs) ys p q t =
    or_elim (eqb e.p p && eqb e.q q) (holds xs p q)
    (λ u. holds_kept xs (e ∷ ys) p q (or_left (eqb e.p p && eqb e.q q) (holds ys p q) u))
    (λ u. holds-reversed xs (e ∷ ys) p q u) t

concat-covers : (n : ℕ) (f : ℕ → List Entry) (i : ℕ) → i < n → Covers (concat_below n f) (f i)
unfolding concat_below
concat-covers zero f i l p q t = absurd (not-suc-le-zero l)
concat-covers (suc n) f i l p q t = go (below_suc l) (λ m. concat-covers n f i m p q t)
  where
    go : (i < n) ⊎ (i ≡ n) → (i < n → T (holds (concat_below n f) p q)) → T (holds (concat_below n f ++ f n) p q)
    go (inl m) ih = holds-append-left (concat_below n f) (f n) p q (ih m)
    go (inr e) ih = holds-append-right (concat_below n f) (f n) p q (subst (λ (k : ℕ). T (holds (f k) p q)) e t)

-- ---- the last entry, and lengths

holds-last : (e : Entry) (es : List Entry) → T (holds (e ∷ es) (last_of (e ∷ es)).p (last_of (e ∷ es)).q)
unfolding last_of
holds-last e [] = holds-here e []
holds-last e (f ∷ es) = holds_later e (f ∷ es) _ _ (holds-last f es)

last_snoc : (xs : List Entry) (x : Entry) → last_of (xs ++ (x ∷ [])) ≡ x
unfolding last_of
last_snoc [] x = refl
last_snoc (y ∷ []) x = refl
last_snoc (y ∷ z ∷ xs) x = last_snoc (z ∷ xs) x

length-if : (b : Bool) (e : Entry) → length (cond b (e ∷ []) []) ≡ cond b 1 0
length-if true e = refl
length-if false e = refl

-- ---- what a sound entry says

module _ (L : Lts) (wf : WellFormed L) (preorder : Rel) where
  abbrev pub Sound : List Entry → Entry → Type 0
  Sound earlier e = ((e.a ≡ 0) × (e.t ≡ 0) × (T (preorder e.p e.q) → ⊥))
      ⊎ (T (L.transition e.p e.a e.t) × ((r : ℕ) → T (L.transition e.q e.a r) → T (holds earlier e.t r)))

  ready : List Entry → Entry → Bool
  ready earlier e = all_states L (λ r. L.transition e.q e.a r ⇒ holds earlier e.t r)

  outside : Entry → Bool
  outside e = eqb e.a 0 && eqb e.t 0 && not (preorder e.p e.q)

  pub sound-to : (earlier : List Entry) (e : Entry) → T (sound L preorder earlier e) → Sound earlier e
  unfolding sound ready outside
  sound-to earlier e t =
      or_elim (outside e) (L.transition e.p e.a e.t && ready earlier e)
      (λ u.
      let c = (and-iff (eqb e.a 0 && eqb e.t 0) (not (preorder e.p e.q))).0 u in
      let d = (and-iff (eqb e.a 0) (eqb e.t 0)).0 c.0 in
      inl (eqb→eq e.a 0 d.0, eqb→eq e.t 0 d.1, (not_iff (preorder e.p e.q)).0 c.1))
      (λ u.
      let c = (and-iff (L.transition e.p e.a e.t) (ready earlier e)).0 u in
      inr (
        c.0,
        λ r m. (imp-iff (L.transition e.q e.a r) (holds earlier e.t r)).0 ((all-state-iff L (λ r. L.transition e.q e.a r ⇒ holds earlier e.t r)).0 c.1 r (wf.target e.q e.a r m)) m,
      ))
      ((and-iff (ltb e.p L.states && ltb e.q L.states) (outside e || L.transition e.p e.a e.t && ready earlier e)).0 t).1

  sound-from : (earlier : List Entry) (e : Entry) → e.p < L.states → e.q < L.states → Sound earlier e → T (sound L preorder earlier e)
  unfolding sound ready outside
  sound-from earlier e l m s =
      (and-iff (ltb e.p L.states && ltb e.q L.states) (outside e || L.transition e.p e.a e.t && ready earlier e)).1 (
        (and-iff (ltb e.p L.states) (ltb e.q L.states)).1 (lt→ltb e.p L.states l, lt→ltb e.q L.states m),
        go s,
      )
    where
      zero_test : {x : ℕ} → x ≡ 0 → T (eqb x 0)
      zero_test {x} q = subst (λ (y : ℕ). T (eqb y 0)) (sym q) tt

      go : Sound earlier e → T (outside e || L.transition e.p e.a e.t && ready earlier e)
      go (inl c) =
          or_left (outside e) (L.transition e.p e.a e.t && ready earlier e)
          ((and-iff (eqb e.a 0 && eqb e.t 0) (not (preorder e.p e.q))).1 (
            (and-iff (eqb e.a 0) (eqb e.t 0)).1 (zero_test c.0, zero_test c.1),
            (not_iff (preorder e.p e.q)).1 c.2,
          ))
      go (inr c) =
          or_right (outside e) (L.transition e.p e.a e.t && ready earlier e)
          ((and-iff (L.transition e.p e.a e.t) (ready earlier e)).1 (
            c.0,
            (all-state-iff L (λ r. L.transition e.q e.a r ⇒ holds earlier e.t r)).1 (λ r _. (imp-iff (L.transition e.q e.a r) (holds earlier e.t r)).1 (c.1 r)),
          ))

  -- ---- an accepted strategy holds no pair of a simulation

  module _ (S : Relation) (sim : Simulation L preorder S) where
    abbrev Refutes : List Entry → Type 0
    Refutes es = (p q : ℕ) → T (holds es p q) → S p q → ⊥

    entry-refutes : (earlier : List Entry) (e : Entry) → Refutes earlier → Sound earlier e → S e.p e.q → ⊥
    entry-refutes earlier e h (inl c) s = c.2 (sim.inside s)
    entry-refutes earlier e h (inr c) s = let r = sim.answer e.a e.t s c.0 in h e.t r.0 (c.1 r.0 r.1) r.2

    cons-refutes : (e : Entry) (es : List Entry) → (S e.p e.q → ⊥) → Refutes es → Refutes (e ∷ es)
    cons-refutes e es f h p q t s = go (holds-cons e es p q t)
      where
        go : ((e.p ≡ p) × (e.q ≡ q)) ⊎ T (holds es p q) → ⊥
        go (inl c) = f (subst (λ (x : ℕ). S x e.q) (sym c.0) (subst (λ (y : ℕ). S p y) (sym c.1) s))
        go (inr u) = h p q u s

    pub strategy-refutes : (earlier es : List Entry) → Refutes earlier → T (all_sound L preorder earlier es) → Refutes es
    unfolding all_sound holds
    strategy-refutes earlier [] h t = λ p q u s. u
    strategy-refutes earlier (e ∷ es) h t =
        let c = (and-iff (sound L preorder earlier e) (all_sound L preorder (e ∷ earlier) es)).0 t in
        let f = entry-refutes earlier e h (sound-to earlier e c.0) in
        cons-refutes e es f (strategy-refutes (e ∷ earlier) es (cons-refutes e earlier f h) c.1)

  -- ---- the strategy that is written is accepted

  abbrev W : ℕ → Rel
  W j = round L preorder j

  all-sound-join : (earlier xs ys : List Entry) → T (all_sound L preorder earlier xs) → T (all_sound L preorder (reverse_aux xs earlier) ys) → T (all_sound L preorder earlier (xs ++ ys))
  unfolding all_sound
  all-sound-join earlier [] ys t u = u
  all-sound-join earlier (e ∷ xs) ys t u =
      let c = (and-iff (sound L preorder earlier e) (all_sound L preorder (e ∷ earlier) xs)).0 t in
      (and-iff (sound L preorder earlier e) (all_sound L preorder (e ∷ earlier) (xs ++ ys))).1 (c.0, all-sound-join (e ∷ earlier) xs ys c.1 u)

  -- every entry is sound over any list that covers what the earlier entries hold
  abbrev EachSound : List Entry → List Entry → Type 0
  EachSound earlier [] = Unit {0}
  EachSound earlier (e ∷ es) = ((l : List Entry) → Covers l earlier → T (sound L preorder l e)) × EachSound earlier es

  each-sound-append : (earlier xs ys : List Entry) → EachSound earlier xs → EachSound earlier ys → EachSound earlier (xs ++ ys)
  each-sound-append earlier [] ys a b = b
  each-sound-append earlier (e ∷ xs) ys a b = (a.0, each-sound-append earlier xs ys a.1 b)

  each-sound-concat : (earlier : List Entry) (n : ℕ) (f : ℕ → List Entry) → ((i : ℕ) → i < n → EachSound earlier (f i)) → EachSound earlier (concat_below n f)
  unfolding concat_below
  each-sound-concat earlier zero f h = tt
  each-sound-concat earlier (suc n) f h = each-sound-append earlier (concat_below n f) (f n) (each-sound-concat earlier n f (λ i l. h i (le_step l))) (h n (lt-suc_self n))

  sound-all-sound : (earlier l es : List Entry) → Covers l earlier → EachSound earlier es → T (all_sound L preorder l es)
  unfolding all_sound
  sound-all-sound earlier l [] c a = tt
  sound-all-sound earlier l (e ∷ es) c a =
      (and-iff (sound L preorder l e) (all_sound L preorder (e ∷ l) es)).1 (
        a.0 l c,
        sound-all-sound earlier (e ∷ l) es (λ p q t. holds_later e l p q (c p q t)) a.1,
      )

  -- a pair that falls before round j has its entry there
  before-covers : (j i p q : ℕ) → i < j → p < L.states → q < L.states → T (refuted_at L preorder i p q) → T (holds (entries_before L preorder j) p q)
  unfolding entries_before entries_in entry_at
  before-covers j i p q l lp lq t =
      concat-covers j (entries_in L preorder) i l p q
      (concat-covers L.states row p lp p q
      (concat-covers L.states (cell p) q lq p q (go (refuted_at L preorder i p q) t (entry-pair i))))
    where
      cell : ℕ → ℕ → List Entry
      cell p q = cond (refuted_at L preorder i p q) (entry_at L preorder i p q ∷ []) []

      row : ℕ → List Entry
      row p = concat_below L.states (cell p)

      entry-pair : (i : ℕ) → T (holds (entry_at L preorder i p q ∷ []) p q)
      entry-pair zero = holds-here (entry_at L preorder zero p q) []
      entry-pair (suc i) = holds-here (entry_at L preorder (suc i) p q) []

      go : (b : Bool) → T b → T (holds (entry_at L preorder i p q ∷ []) p q) → T (holds (cond b (entry_at L preorder i p q ∷ []) []) p q)
      go true t h = h
      go false t h = absurd t

  -- at a pair that falls at round j + 1 some transition is unanswered
  pub unanswered-at : (j p q : ℕ) → T (refuted_at L preorder (suc j) p q)
      → T (unanswered L (W j) p q (entry_at L preorder (suc j) p q).a (entry_at L preorder (suc j) p q).t)
  unfolding refuted_at entry_at any_state unanswered
  unanswered-at j p q f = go (dec (any_below L.actions some))
    where
      some : ℕ → Bool
      some b = any_state L (unanswered L (W j) p q (suc b))

      c : T (W j p q) × T (not (W (suc j) p q))
      c = (and-iff (W j p q) (not (W (suc j) p q))).0 f

      reply : (T (any_below L.actions some) → ⊥) → (a t : ℕ) → (1 ≤ a) × (a ≤ L.actions) → T (L.transition p a t) → T (into L a (W j t) q) ⊎ (T (into L a (W j t) q) → ⊥)
          → (r : ℕ) × T (L.transition q a r) × On (W j) t r
      reply n a t l m (inl i) = into-to L a (W j t) q i
      reply n zero t l m (inr i) = absurd (not-suc-le-zero l.0)
      reply n (suc b) t l m (inr i) =
          absurd
          (n
          ((any-iff L.actions some).1 (
            b,
            l.1,
            (any-state-iff L (unanswered L (W j) p q (suc b))).1 (t, wf.target p (suc b) t m, stuck-from (suc b) t m i),
          )))
        where
          stuck-from : (a t : ℕ) → T (L.transition p a t) → (T (into L a (W j t) q) → ⊥) → T (unanswered L (W j) p q a t)
          stuck-from a t m i = (and-iff (L.transition p a t) (not (into L a (W j t) q))).1 (m, (not_iff (into L a (W j t) q)).1 i)

      go : T (any_below L.actions some) ⊎ (T (any_below L.actions some) → ⊥) → T (unanswered L (W j) p q (entry_at L preorder (suc j) p q).a (entry_at L preorder (suc j) p q).t)
      go (inl t) =
          let b = (any-iff L.actions some).0 t in
          let low = lowest-passes L.actions some b.0 b.1 b.2 in
          let u = (any-state-iff L (unanswered L (W j) p q (suc (lowest L.actions some)))).0 low.1 in
          (lowest-passes L.states (unanswered L (W j) p q (suc (lowest L.actions some))) u.0 u.1 u.2).1
      go (inr n) =
          absurd ((not_iff (W (suc j) p q)).0 c.1 ((next-iff L wf preorder j p q).1 (c.0, λ a t m. reply n a t (wf.action p a t m) m (dec (into L a (W j t) q)))))

  entry-sound : (j p q : ℕ) → p < L.states → q < L.states → T (refuted_at L preorder j p q) → (l : List Entry) → Covers l (entries_before L preorder j) → T (sound L preorder l (entry_at L preorder j p q))
  unfolding entry_at unanswered
  entry-sound zero p q lp lq f l c =
      sound-from l (entry_at L preorder zero p q) lp lq (inl (refl, refl, λ s. refuted-out L wf preorder zero p q f ((first-iff L wf preorder p q).1 (lp, lq, s))))
  entry-sound (suc j) p q lp lq f l c = sound-from l (entry_at L preorder (suc j) p q) lp lq (inr (d.0, reply))
    where
      a : ℕ
      a = (entry_at L preorder (suc j) p q).a

      t : ℕ
      t = (entry_at L preorder (suc j) p q).t

      d : T (L.transition p a t) × T (not (into L a (W j t) q))
      d = (and-iff (L.transition p a t) (not (into L a (W j t) q))).0 (unanswered-at j p q f)

      reply : (r : ℕ) → T (L.transition q a r) → T (holds l t r)
      reply r m =
          let g = refuted-by L wf preorder j t r (λ w. (not_iff (into L a (W j t) q)).0 d.1 (into-from wf a (W j t) q (r, m, w))) in
          c t r (before-covers (suc j) g.0 t r (lt_of_le_of_lt g.1 (lt-suc_self j)) (wf.target p a t d.0) (wf.target q a r m) g.2)

  entries-in-sound : (j : ℕ) → EachSound (entries_before L preorder j) (entries_in L preorder j)
  unfolding entries_in
  entries-in-sound j =
      each-sound-concat (entries_before L preorder j) L.states (λ p. concat_below L.states (cell p))
      (λ p lp. each-sound-concat (entries_before L preorder j) L.states (cell p) (λ q lq. go p q (refuted_at L preorder j p q) (λ f. entry-sound j p q lp lq f)))
    where
      cell : ℕ → ℕ → List Entry
      cell p q = cond (refuted_at L preorder j p q) (entry_at L preorder j p q ∷ []) []

      go : (p q : ℕ) (b : Bool) → (T b → (l : List Entry) → Covers l (entries_before L preorder j) → T (sound L preorder l (entry_at L preorder j p q)))
          → EachSound (entries_before L preorder j) (cond b (entry_at L preorder j p q ∷ []) [])
      go p q true k = (k tt, tt)
      go p q false k = tt

  before-all-sound : (j : ℕ) → T (all_sound L preorder [] (entries_before L preorder j))
  unfolding entries_before concat_below all_sound
  before-all-sound zero = tt
  before-all-sound (suc j) =
      all-sound-join [] (entries_before L preorder j) (entries_in L preorder j) (before-all-sound j)
      (sound-all-sound (entries_before L preorder j) (reverse_aux (entries_before L preorder j) []) (entries_in L preorder j) (holds-reversed (entries_before L preorder j) []) (entries-in-sound j))

  pub strategy-all-sound : (j p q : ℕ) → p < L.states → q < L.states → T (refuted_at L preorder j p q) → T (all_sound L preorder [] (strategy_at L preorder j p q))
  unfolding strategy_at
  strategy-all-sound j p q lp lq f =
      all-sound-join [] (entries_before L preorder j) (entry_at L preorder j p q ∷ []) (before-all-sound j)
      (sound-all-sound (entries_before L preorder j) (reverse_aux (entries_before L preorder j) []) (entry_at L preorder j p q ∷ []) (holds-reversed (entries_before L preorder j) []) (entry-sound j p q lp lq f, tt))

  -- ---- the strategy that is written, and what the checker answers

  accepted-snoc : (xs : List Entry) (e : Entry) → T (all_sound L preorder [] (xs ++ (e ∷ []))) → T (accepted L preorder (xs ++ (e ∷ [])))
  unfolding accepted
  accepted-snoc [] e t = t
  accepted-snoc (x ∷ xs) e t = t

  pub strategy-at-accepted : (j p q : ℕ) → p < L.states → q < L.states → T (refuted_at L preorder j p q) → T (accepted L preorder (strategy_at L preorder j p q))
  unfolding strategy_at
  strategy-at-accepted j p q lp lq f = accepted-snoc (entries_before L preorder j) (entry_at L preorder j p q) (strategy-all-sound j p q lp lq f)

  pub entry-pair-is : (j p q : ℕ) → ((entry_at L preorder j p q).p ≡ p) × ((entry_at L preorder j p q).q ≡ q)
  unfolding entry_at
  entry-pair-is zero p q = (refl, refl)
  entry-pair-is (suc j) p q = (refl, refl)

  pub strategy-last : (p q : ℕ) → ((last_of (strategy L preorder p q)).p ≡ p) × ((last_of (strategy L preorder p q)).q ≡ q)
  unfolding strategy strategy_at
  strategy-last p q =
      let j = refutation_round L preorder p q in
      let e = last_snoc (entries_before L preorder j) (entry_at L preorder j p q) in
      let d = entry-pair-is j p q in
      (ap (λ (x : Entry). x.p) e ∙ d.0, ap (λ (x : Entry). x.q) e ∙ d.1)

  entries-in-count : (j : ℕ) → length (entries_in L preorder j) ≡ refuted_count L preorder j
  unfolding entries_in refuted_count count_below
  entries-in-count j =
      length-concat L.states (λ p. concat_below L.states (cell p))
      ∙ sum-cong L.states _ _ (λ p. length-concat L.states (cell p) ∙ sum-cong L.states _ _ (λ q. length-if (refuted_at L preorder j p q) (entry_at L preorder j p q)))
    where
      cell : ℕ → ℕ → List Entry
      cell p q = cond (refuted_at L preorder j p q) (entry_at L preorder j p q ∷ []) []

  pub strategy-count : (p q : ℕ) → length (strategy L preorder p q) ≡ strategy_length L preorder p q
  unfolding strategy strategy_at strategy_length entries_before
  strategy-count p q =
      let j = refutation_round L preorder p q in
      length-append (entries_before L preorder j) (entry_at L preorder j p q ∷ []) ∙ add-one (length (entries_before L preorder j))
      ∙ ap suc (length-concat j (entries_in L preorder) ∙ sum-cong j _ _ entries-in-count)

  pub all-sound-last : (earlier : List Entry) (e : Entry) (es : List Entry) → T (all_sound L preorder earlier (e ∷ es)) → ((last_of (e ∷ es)).p < L.states) × ((last_of (e ∷ es)).q < L.states)
  unfolding all_sound last_of sound outside ready
  all-sound-last earlier e [] t =
      let s = ((and-iff (sound L preorder earlier e) true).0 t).0 in
      let b = ((and-iff (ltb e.p L.states && ltb e.q L.states) (outside e || L.transition e.p e.a e.t && ready earlier e)).0 s).0 in
      let c = (and-iff (ltb e.p L.states) (ltb e.q L.states)).0 b in
      (ltb→lt e.p L.states c.0, ltb→lt e.q L.states c.1)
  all-sound-last earlier e (f ∷ es) t = all-sound-last (e ∷ earlier) f es ((and-iff (sound L preorder earlier e) (all_sound L preorder (e ∷ earlier) (f ∷ es))).0 t).1

  pub accepted-states : (es : List Entry) → T (accepted L preorder es) → ((last_of es).p < L.states) × ((last_of es).q < L.states)
  unfolding accepted
  accepted-states [] t = absurd t
  accepted-states (e ∷ es) t = all-sound-last [] e es t

  pub accepted-refutes : (S : Relation) → Simulation L preorder S → (es : List Entry) → T (accepted L preorder es) → S (last_of es).p (last_of es).q → ⊥
  unfolding accepted
  accepted-refutes S sim [] t = absurd t
  accepted-refutes S sim (e ∷ es) t = strategy-refutes S sim [] (e ∷ es) (λ p q u. absurd (holds-none p q u)) t _ _ (holds-last e es)

-- entries that are carried as numbers come back
pub entries-numbers : (es : List Entry) → entries_of (entry_numbers es) ≡ es
unfolding entries_of entry_numbers
entries-numbers [] = refl
entries-numbers (e ∷ es) = ap (λ (l : List Entry). e ∷ l) (entries-numbers es)
