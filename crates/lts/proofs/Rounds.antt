-- The rounds end in the coarsest simulation: a pair is outside it exactly if it falls at some round.
use Prim.Native.Nat.{ℕ, zero, suc, ◌+◌, ◌*◌, ◌≤◌, ◌<◌, zero-le, suc-le-suc}
use native.Mathlib.Nat.{le_refl, le_trans, le_of_eq, le_step, le_antisymm, le-suc_iff, le_of_suc-le-suc, not-suc-le-zero, zero-lt-suc, add-zero}
use native.Mathlib.Omega.{arith}
use mathlib.Core.Path.{◌≡◌, refl, sym, ap, subst}
use mathlib.Core.Logic.{◌⊎◌, inl, inr, ◌↔◌}
use mathlib.Core.Bool.{not, ◌&&◌}
use lib.Dec.{T}
use Rattle.lts.specs.Bounded.{any_below}
use Rattle.lts.specs.System.{Rel, Lts, WellFormed, answered, Relation, Simulation, Answered}
use Rattle.lts.specs.Refinement.{pair_count}
use Rattle.lts.specs.Rounds.{round, refuted_at, refutation_round}
use Rattle.lts.proofs.Bounded.{and-iff, not_iff, dec, any-iff, restrict-iff}
use Rattle.lts.proofs.Count.{lowest-passes}
use Rattle.lts.proofs.System.{answered-iff}
use Rattle.lts.proofs.Step.{On}
use Rattle.lts.proofs.Run.{Coarsest, pair-count-most, pair-count-lt}

module _ (L : Lts) (wf : WellFormed L) (preorder : Rel) where
  abbrev W : ℕ → Rel
  W j = round L preorder j

  pub first-iff : (p q : ℕ) → On (W zero) p q ↔ ((p < L.states) × (q < L.states) × T (preorder p q))
  unfolding round
  first-iff p q = restrict-iff L.states preorder p q

  pub next-iff : (j p q : ℕ) → On (W (suc j)) p q ↔ (On (W j) p q × Answered L (On (W j)) p q)
  unfolding round
  next-iff j p q =
      let e = and-iff (W j p q) (answered L (W j) p q) in
      let d = answered-iff wf (W j) p q in
      (λ t. ((e.0 t).0, d.0 (e.0 t).1), λ c. e.1 (c.0, d.1 c.1))

  pub round-states : (j p q : ℕ) → On (W j) p q → (p < L.states) × (q < L.states) × T (preorder p q)
  round-states zero p q t = (first-iff p q).0 t
  round-states (suc j) p q t = round-states j p q ((next-iff j p q).0 t).0

  -- every simulation inside the preorder stays in every round
  pub round-contains : (S : Relation) → Simulation L preorder S → (j p q : ℕ) → S p q → On (W j) p q
  round-contains S sim zero p q s = let l = sim.states s in (first-iff p q).1 (l.0, l.1, sim.inside s)
  round-contains S sim (suc j) p q s =
      (next-iff j p q).1 (
        round-contains S sim j p q s,
        λ a t m. let r = sim.answer a t s m in (r.0, r.1, round-contains S sim j t r.0 r.2),
      )

  -- a round that drops nothing
  abbrev Stable : ℕ → Type 0
  Stable j = (p q : ℕ) → On (W j) p q → On (W (suc j)) p q

  stable-or-less : (j : ℕ) → Stable j ⊎ (pair_count L (W (suc j)) < pair_count L (W j))
  stable-or-less j = go (dec (any_below n (λ p. any_below n (lost p))))
    where
      n : ℕ
      n = L.states

      lost : Rel
      lost p q = W j p q && not (W (suc j) p q)

      less : (p q : ℕ) → On (W (suc j)) p q → On (W j) p q
      less p q t = ((next-iff j p q).0 t).0

      keep : (p q : ℕ) → (T (any_below n (λ p. any_below n (lost p))) → ⊥) → On (W j) p q → T (W (suc j) p q) ⊎ (T (W (suc j) p q) → ⊥) → On (W (suc j)) p q
      keep p q f t (inl u) = u
      keep p q f t (inr u) =
          let l = round-states j p q t in
          absurd (f ((any-iff n (λ p. any_below n (lost p))).1 (p, l.0, (any-iff n (lost p)).1 (q, l.1, (and-iff (W j p q) (not (W (suc j) p q))).1 (t, (not_iff (W (suc j) p q)).1 u)))))

      go : T (any_below n (λ p. any_below n (lost p))) ⊎ (T (any_below n (λ p. any_below n (lost p))) → ⊥) → Stable j ⊎ (pair_count L (W (suc j)) < pair_count L (W j))
      go (inr f) = inl (λ p q t. keep p q f t (dec (W (suc j) p q)))
      go (inl t) =
          let p = (any-iff n (λ p. any_below n (lost p))).0 t in
          let q = (any-iff n (lost p.0)).0 p.2 in
          let e = (and-iff (W j p.0 q.0) (not (W (suc j) p.0 q.0))).0 q.2 in
          inr (pair-count-lt L (W (suc j)) (W j) less p.0 q.0 p.1 q.1 ((not_iff (W (suc j) p.0 q.0)).0 e.1) e.0)

  stable-by : (k : ℕ) → ((j : ℕ) × (j < k) × Stable j) ⊎ (pair_count L (W k) + k ≤ L.states * L.states)
  stable-by zero = inr (le_trans (le_of_eq (add-zero (pair_count L (W zero)))) (pair-count-most L (W zero)))
  stable-by (suc k) = go (stable-by k) (stable-or-less k)
    where
      go : ((j : ℕ) × (j < k) × Stable j) ⊎ (pair_count L (W k) + k ≤ L.states * L.states) → Stable k ⊎ (pair_count L (W (suc k)) < pair_count L (W k))
          → ((j : ℕ) × (j < suc k) × Stable j) ⊎ (pair_count L (W (suc k)) + suc k ≤ L.states * L.states)
      go (inl s) d = inl (s.0, le_step s.1, s.2)
      go (inr c) (inl s) = inl (k, le_refl (suc k), s)
      go (inr c) (inr d) = inr (omega (arith, c, d))

  -- one of the first n * n + 1 rounds drops nothing
  pub stable-round : (j : ℕ) × (j ≤ L.states * L.states) × Stable j
  stable-round = go (stable-by (suc (L.states * L.states)))
    where
      go : ((j : ℕ) × (j < suc (L.states * L.states)) × Stable j) ⊎ (pair_count L (W (suc (L.states * L.states))) + suc (L.states * L.states) ≤ L.states * L.states)
          → (j : ℕ) × (j ≤ L.states * L.states) × Stable j
      go (inl s) = (s.0, le_of_suc-le-suc s.1, s.2)
      go (inr c) = absurd (omega (arith, c))

  stable-simulates : (j : ℕ) → Stable j → Simulation L preorder (On (W j))
  stable-simulates j stable = record {
    states = λ {p} {q} t. let c = round-states j p q t in (c.0, c.1);
    inside = λ {p} {q} t. (round-states j p q t).2;
    answer = λ {p} {q} a r t m. ((next-iff j p q).0 (stable p q t)).1 a r m;
  }

  -- a pair that is not in round j has fallen by then
  pub refuted-by : (j p q : ℕ) → (On (W j) p q → ⊥) → (i : ℕ) × (i ≤ j) × T (refuted_at L preorder i p q)
  unfolding refuted_at
  refuted-by zero p q f = (zero, le_refl zero, (not_iff (W zero p q)).1 f)
  refuted-by (suc j) p q f = go (dec (W j p q)) (λ g. refuted-by j p q g)
    where
      go : T (W j p q) ⊎ (T (W j p q) → ⊥) → ((On (W j) p q → ⊥) → (i : ℕ) × (i ≤ j) × T (refuted_at L preorder i p q)) → (i : ℕ) × (i ≤ suc j) × T (refuted_at L preorder i p q)
      go (inl t) ih = (suc j, le_refl (suc j), (and-iff (W j p q) (not (W (suc j) p q))).1 (t, (not_iff (W (suc j) p q)).1 f))
      go (inr g) ih = let r = ih g in (r.0, le_step r.1, r.2)

  pub refuted-out : (j p q : ℕ) → T (refuted_at L preorder j p q) → On (W j) p q → ⊥
  unfolding refuted_at
  refuted-out zero p q t = (not_iff (W zero p q)).0 t
  refuted-out (suc j) p q t = (not_iff (W (suc j) p q)).0 ((and-iff (W j p q) (not (W (suc j) p q))).0 t).1

  -- later rounds are smaller, so a pair falls once
  pub round-antitone : (i j p q : ℕ) → i ≤ j → On (W j) p q → On (W i) p q
  round-antitone i zero p q l t = subst (λ (k : ℕ). On (W k) p q) (sym (le_antisymm l zero-le)) t
  round-antitone i (suc j) p q l t = go (le-suc_iff.0 l) (λ m. round-antitone i j p q m ((next-iff j p q).0 t).0)
    where
      go : (i ≤ j) ⊎ (i ≡ suc j) → (i ≤ j → On (W i) p q) → On (W i) p q
      go (inl m) ih = ih m
      go (inr e) ih = subst (λ (k : ℕ). On (W k) p q) (sym e) t

  refuted-late : (i j p q : ℕ) → i < j → T (refuted_at L preorder i p q) → T (refuted_at L preorder j p q) → ⊥
  unfolding refuted_at
  refuted-late i zero p q l f g = not-suc-le-zero l
  refuted-late i (suc j) p q l f g =
      refuted-out i p q f (round-antitone i j p q (le_of_suc-le-suc l) ((and-iff (W j p q) (not (W (suc j) p q))).0 g).0)

  pub refuted-once : (i j p q : ℕ) → T (refuted_at L preorder i p q) → T (refuted_at L preorder j p q) → i ≡ j
  refuted-once i j p q f g = go (lt_trichotomy i j)
    where
      lt_trichotomy : (i j : ℕ) → (i < j) ⊎ ((j < i) ⊎ (i ≡ j))
      lt_trichotomy i zero = low i
        where
          low : (i : ℕ) → (i < zero) ⊎ ((zero < i) ⊎ (i ≡ zero))
          low zero = inr (inr refl)
          low (suc i) = inr (inl (zero-lt-suc i))
      lt_trichotomy zero (suc j) = inl (zero-lt-suc j)
      lt_trichotomy (suc i) (suc j) = lift (lt_trichotomy i j)
        where
          lift : (i < j) ⊎ ((j < i) ⊎ (i ≡ j)) → (suc i < suc j) ⊎ ((suc j < suc i) ⊎ (suc i ≡ suc j))
          lift (inl l) = inl (suc-le-suc l)
          lift (inr (inl l)) = inr (inl (suc-le-suc l))
          lift (inr (inr e)) = inr (inr (ap suc e))

      go : (i < j) ⊎ ((j < i) ⊎ (i ≡ j)) → i ≡ j
      go (inl l) = absurd (refuted-late i j p q l f g)
      go (inr (inl l)) = absurd (refuted-late j i p q l g f)
      go (inr (inr e)) = e

  -- a pair that falls does so at the round `refutation_round`
  pub refutation-round-is : (p q j : ℕ) → T (refuted_at L preorder j p q) → refutation_round L preorder p q ≡ j
  unfolding refutation_round
  refutation-round-is p q j f =
      let s = stable-round in
      let sim = stable-simulates s.0 s.2 in
      let r = refuted-by s.0 p q (λ w. refuted-out j p q f (round-contains (On (W s.0)) sim j p q w)) in
      let c = lowest-passes (suc (L.states * L.states)) (λ i. refuted_at L preorder i p q) r.0 (suc-le-suc (le_trans r.1 s.1)) r.2 in
      refuted-once (refutation_round L preorder p q) j p q c.1 f

  -- A pair outside the coarsest simulation falls, by round n * n, and then `refutation_round` is its round.
  pub dropped-refuted : (K : Rel) → Coarsest L preorder K → (p q : ℕ) → (On K p q → ⊥) → T (refuted_at L preorder (refutation_round L preorder p q) p q)
  unfolding refutation_round
  dropped-refuted K 𝓚 p q f =
      let s = stable-round in
      let r = refuted-by s.0 p q (λ t. f (𝓚.greatest (On (W s.0)) (stable-simulates s.0 s.2) p q t)) in
      (lowest-passes (suc (L.states * L.states)) (λ j. refuted_at L preorder j p q) r.0 (suc-le-suc (le_trans r.1 s.1)) r.2).1

  -- (p, q) is outside the coarsest simulation exactly if it falls at some round
  pub dropped-iff : (K : Rel) → Coarsest L preorder K → (p q : ℕ) → (On K p q → ⊥) ↔ ((j : ℕ) × T (refuted_at L preorder j p q))
  dropped-iff K 𝓚 p q = (
    λ f. (refutation_round L preorder p q, dropped-refuted K 𝓚 p q f),
    λ j k. refuted-out j.0 p q j.1 (round-contains (On K) 𝓚.simulates j.0 p q k),
  )
