-- The round at which a pair falls, as a search through the rounds finds it, and the count of the pairs that fell before. Assumes nothing.
use Prim.Native.Nat.{ℕ, zero, suc, ◌+◌, ◌*◌, ◌-◌, ◌≤◌, ◌<◌, suc-le-suc, zero-le}
use native.Mathlib.Nat.{le_trans, mul-le-mul}
use native.Mathlib.Omega.{arith}
use native.Mathlib.Numerals.{add-one}
use mathlib.Core.Path.{◌≡◌, refl, sym, ◌∙◌, ap}
use mathlib.Core.Logic.{◌⊎◌, inl, inr}
use mathlib.Core.Bool.{Bool, true, false, cond, not, ◌&&◌}
use lib.Dec.{T}
use Rattle.lts.specs.Bounded.{sum_below, count_below}
use Rattle.lts.specs.System.{Rel, Lts, WellFormed, answered, Simulation}
use Rattle.lts.specs.Rounds.{round, refuted_at, refutation_round}
use Rattle.lts.specs.Strategy.{refuted_count, strategy_length}
use Rattle.lts.proofs.Bounded.{and-iff, dec}
use Rattle.lts.proofs.Count.{sum-le, sum_lt, count-le, count-lt, count-least}
use Rattle.lts.proofs.Step.{On}
use Rattle.lts.proofs.Rounds.{round-states, round-contains, next-iff, refuted-out, refuted-once}
use Rattle.relation.specs.Matrix.{pair_count}
use Rattle.lts.proofs.Below.{either, true-T, lowest-is, lowest-none, sum-cong}
use Rattle.std.specs.Prelude.{Some, None}
use Rattle.strategy_rounds.specs.Rounds.{RefutationOf}

-- ---- counts

sum-split : (n : ℕ) (f g h : ℕ → ℕ) → ((i : ℕ) → f i + g i ≡ h i) → sum_below n f + sum_below n g ≡ sum_below n h
unfolding sum_below
sum-split zero f g h e = refl
sum-split (suc n) f g h e = let t = sum-split n f g h e in omega (arith, t, e n)

sum-const : (n c : ℕ) → sum_below n (λ _. c) ≡ n * c
unfolding sum_below
sum-const zero c = let e : 0 * c ≡ 0 = omega arith in sym e
sum-const (suc n) c = let t = sum-const n c in omega (arith, t)

pairs-split : (n : ℕ) (A B C : Rel) → ((p q : ℕ) → cond (A p q) 1 0 + cond (B p q) 1 0 ≡ cond (C p q) 1 0)
    → pair_count n A + pair_count n B ≡ pair_count n C
unfolding pair_count count_below
pairs-split n A B C e = sum-split n _ _ _ (λ p. sum-split n _ _ _ (λ q. e p q))

pairs-all : (n : ℕ) → pair_count n (λ p q. true) ≡ n * n
unfolding pair_count count_below
pairs-all n = ap (λ (c : ℕ). sum_below n (λ p. c)) (sum-const n 1) ∙ sum-const n (n * 1) ∙ ap (λ (c : ℕ). n * c) (let e : n * 1 ≡ n = omega arith in e)

pub pairs-cong : (n : ℕ) (R S : Rel) → ((p q : ℕ) → p < n → q < n → R p q ≡ S p q) → pair_count n R ≡ pair_count n S
unfolding pair_count count_below
pairs-cong n R S h = sum-cong n _ _ (λ p hp. sum-cong n _ _ (λ q hq. ap (λ (b : Bool). cond b 1 0) (h p q hp hq)))

module _ (L : Lts) (start : Rel) where
  abbrev n : ℕ
  n = L.states

  abbrev W : ℕ → Rel
  W j = round L start j

  -- ---- how many pairs fell by round j

  out_first : (p q : ℕ) → cond (refuted_at L start zero p q) 1 0 + cond (W zero p q) 1 0 ≡ 1
  unfolding refuted_at
  out_first p q = go (W zero p q)
    where
      go : (b : Bool) → cond (not b) 1 0 + cond b 1 0 ≡ 1
      go true = refl
      go false = refl

  out-next : (j p q : ℕ) → cond (refuted_at L start (suc j) p q) 1 0 + cond (W (suc j) p q) 1 0 ≡ cond (W j p q) 1 0
  unfolding refuted_at round
  out-next j p q = go (W j p q) (answered L (W j) p q)
    where
      go : (a b : Bool) → cond (a && not (a && b)) 1 0 + cond (a && b) 1 0 ≡ cond a 1 0
      go true true = refl
      go true false = refl
      go false b = refl

  pub refuted-before : (j : ℕ) → sum_below (suc j) (refuted_count L start) + pair_count n (W j) ≡ n * n
  unfolding sum_below refuted_count pair_count
  refuted-before zero = let t = pairs-split n (refuted_at L start zero) (W zero) (λ p q. true) out_first ∙ pairs-all n in omega (arith, t)
  refuted-before (suc j) =
      let t = refuted-before j in
      let s = pairs-split n (refuted_at L start (suc j)) (W (suc j)) (W j) (out-next j) in
      omega (arith, t, s)

  -- ---- a round that drops nothing

  next-less : (j p q : ℕ) → T (W (suc j) p q) → T (W j p q)
  unfolding round
  next-less j p q t = ((and-iff (W j p q) (answered L (W j) p q)).0 t).0

  pub pairs-fall : (j : ℕ) → pair_count n (W (suc j)) ≤ pair_count n (W j)
  unfolding pair_count
  pairs-fall j = sum-le n _ _ (λ p _. count-le n (W (suc j) p) (W j p) (λ q _. next-less j p q))

  pub pairs-some : (j p q : ℕ) → p < n → q < n → T (W j p q) → 1 ≤ pair_count n (W j)
  unfolding pair_count
  pairs-some j p q hp hq t =
      le_trans (suc-le-suc zero-le) (sum_lt n (λ _. 0) (λ p. count_below n (W j p)) (λ _ _. zero-le) p hp (count-least n (W j p) q hq t))

  same-stable : (j : ℕ) → pair_count n (W (suc j)) ≡ pair_count n (W j) → (p q : ℕ) → p < n → q < n → T (W j p q) → T (W (suc j) p q)
  unfolding pair_count
  same-stable j e p q hp hq t = go (dec (W (suc j) p q))
    where
      go : T (W (suc j) p q) ⊎ (T (W (suc j) p q) → ⊥) → T (W (suc j) p q)
      go (inl u) = u
      go (inr f) =
          let less = sum_lt n (λ p. count_below n (W (suc j) p)) (λ p. count_below n (W j p)) (λ p _. count-le n (W (suc j) p) (W j p) (λ q _. next-less j p q)) p hp
          (count-lt n (W (suc j) p) (W j p) (λ q _. next-less j p q) q hq f t) in
          absurd (omega (arith, e, less))

  module _ (wf : WellFormed L) where
    -- a pair of such a round falls at none
    never : (j : ℕ) → pair_count n (W (suc j)) ≡ pair_count n (W j) → (p q : ℕ) → T (W j p q) → (i : ℕ) → refuted_at L start i p q ≡ false
    never j e p q t i = go (either (refuted_at L start i p q))
      where
        sim : Simulation L start (On (W j))
        sim = record {
          states = λ {p} {q} t. let c = round-states L wf start j p q t in (c.0, c.1);
          inside = λ {p} {q} t. (round-states L wf start j p q t).2;
          answer = λ {p} {q} a r t m. let c = round-states L wf start j p q t in ((next-iff L wf start j p q).0 (same-stable j e p q c.0 c.1 t)).1 a r m;
        }

        go : (refuted_at L start i p q ≡ true) ⊎ (refuted_at L start i p q ≡ false) → refuted_at L start i p q ≡ false
        go (inr f) = f
        go (inl u) = absurd (refuted-out L wf start i p q (true-T _ u) (round-contains L wf start (On (W j)) sim i p q t))

    -- ---- the three answers of the search

    pub falls-first : (p q : ℕ) → W zero p q ≡ false → RefutationOf L start p q (Some (record { round = 0; count = 1 }))
    unfolding refutation_round strategy_length refuted_at sum_below
    falls-first p q e =
        let r = lowest-is (suc (n * n)) (λ j. refuted_at L start j p q) 0 (suc-le-suc zero-le) (ap not e) (λ i h. absurd (omega (arith, h))) in
        record { round = r; bound = zero-le; count = ap (λ (j : ℕ). suc (sum_below j (refuted_count L start))) r }

    pub falls-later : (p q j left : ℕ) → p < n → q < n → W j p q ≡ true → W (suc j) p q ≡ false → left ≡ pair_count n (W j) → left + j ≤ n * n
        → RefutationOf L start p q (Some (record { round = j + 1; count = n * n - left + 1 }))
    unfolding refutation_round strategy_length refuted_at
    falls-later p q j left hp hq here gone count room =
        let falls : refuted_at L start (suc j) p q ≡ true = rw (here, gone) in
        let some = pairs-some j p q hp hq (true-T _ here) in
        let below : suc j < suc (n * n) = omega (arith, some, count, room) in
        let r = lowest-is (suc (n * n)) (λ i. refuted_at L start i p q) (suc j) below falls (λ i h. once i h falls (either (refuted_at L start i p q))) in
        let total = refuted-before j in
        let c : n * n - left + 1 ≡ suc (sum_below (suc j) (refuted_count L start)) = omega (arith, total, count, room) in
        record {
          round = add-one j ∙ r;
          bound = omega (arith, below);
          count = c ∙ ap (λ (i : ℕ). suc (sum_below i (refuted_count L start))) r;
        }
      where
        once : (i : ℕ) → i < suc j → refuted_at L start (suc j) p q ≡ true → (refuted_at L start i p q ≡ true) ⊎ (refuted_at L start i p q ≡ false) → refuted_at L start i p q ≡ false
        once i h falls (inr f) = f
        once i h falls (inl u) = absurd (let same = refuted-once L wf start i (suc j) p q (true-T _ u) (true-T _ falls) in omega (arith, h, same))

    pub falls-never : (p q j : ℕ) → W j p q ≡ true → pair_count n (W (suc j)) ≡ pair_count n (W j) → RefutationOf L start p q None
    unfolding refutation_round
    falls-never p q j here same =
        let none = lowest-none (suc (n * n)) (λ i. refuted_at L start i p q) (λ i _. never j same p q (true-T _ here) i) in omega (arith, none)

pub square-most : (n : ℕ) → n ≤ 256 → n * n ≤ 65536
square-most n h = mul-le-mul h h
