-- Laws of chains.
use Prim.Native.Nat.{ℕ, zero, suc, ◌+◌, ◌-◌, ◌≤◌, ◌<◌}
use mathlib.Core.Path.{◌≡◌, refl, ap, ◌∙◌}
use mathlib.Core.Bool.{and-eq-true_iff}
use mathlib.Core.List.{List, [], ◌∷◌, map}
use native.Mathlib.Omega.{arith}
use native.Mathlib.Numerals.{sub-one}
use native.Mathlib.Nat.{not-suc-le-zero}
use borrow.Author.Tests.{leb-true, ltb-true}
use lib.ListN.{length, get_or, replicate, length-replicate}
use Rattle.encoding.specs.declared.Header.{Header}
use Rattle.lts.proofs.Below.{all-at}
use Rattle.encoding.specs.Encoding.{state_fits, transition_fits, states_fit, transitions_fit}
use Rattle.encoding.specs.Encoding.{walk, chain, reached, successor}
use Rattle.encoding.specs.Records.{state_record, transition_record}
use Rattle.encoding.specs.Checked.{Recorded, FirstKnown, TransitionKnown}
use Rattle.lts.proofs.Lists.{Every, every_map, concat-keeps}

-- ## The records of an encoding that passed rules 1 to 4
module _ (s : List ℕ) (h : Header) (g : Recorded s h) where
  pub first-known : (p : ℕ) → p < h.states → FirstKnown s h p (state_record s h p).first
  unfolding states_fit state_fits
  first-known p l =
      let e = simp and-eq-true_iff at (all-at h.states _ g.states p l) in
      record { is = refl; bound = omega (arith, leb-true) }

  pub transition-known : (j : ℕ) → 1 ≤ j → j ≤ h.transitions → TransitionKnown s h j (transition_record s h j)
  unfolding transitions_fit transition_fits
  transition-known j l u =
      let at_j : j - 1 + 1 ≡ j = omega arith in
      let e = simp (at_j, and-eq-true_iff) at (all-at h.transitions _ g.transitions (j - 1) (omega arith)) in
      record {
        is = refl;
        named = omega (arith, leb-true);
        action = omega (arith, leb-true);
        target = omega (arith, ltb-true);
        next = omega (arith, leb-true);
      }

-- ## The walk
module _ (s : List ℕ) (h : Header) where
  pub walk_none : (j : ℕ) → walk s h 0 j ≡ []
  unfolding walk
  walk_none j = refl

  pub walk_end : (fuel : ℕ) → walk s h fuel 0 ≡ []
  unfolding walk
  walk_end zero = refl
  walk_end (suc fuel) = refl

  pub walk_more : (fuel j : ℕ) → 0 < fuel → 0 < j → walk s h fuel j ≡ j ∷ walk s h (fuel - 1) (transition_record s h j).next
  unfolding walk
  walk_more zero j l p = absurd (not-suc-le-zero l)
  walk_more (suc fuel) zero l p = absurd (not-suc-le-zero p)
  walk_more (suc fuel) (suc j) l p = rw sub-one

  -- the walk at step i of at most k
  pub walk_step : (k i j : ℕ) → i < k → 0 < j → walk s h (k - i) j ≡ j ∷ walk s h (k - (i + 1)) (transition_record s h j).next
  walk_step k i j l p = walk_more (k - i) j (omega arith) p ∙ ap (λ (fuel : ℕ). j ∷ walk s h fuel (transition_record s h j).next) (omega arith)

  pub walk_first : (k j : ℕ) → walk s h (k - 0) j ≡ walk s h k j
  walk_first k j = ap (λ (fuel : ℕ). walk s h fuel j) (omega arith)

  pub walk_last : (k i j : ℕ) → k ≤ i → walk s h (k - i) j ≡ []
  walk_last k i j l = ap (λ (fuel : ℕ). walk s h fuel j) (omega arith) ∙ walk_none j

-- ## The records and successors on chains lie in their ranges
abbrev pub Below : ℕ → List ℕ → Type 0
Below b l = Every (λ x. x < b) l

module _ (s : List ℕ) (h : Header) (g : Recorded s h) where
  -- what every record keeps, those on chains do
  pub walk-all : (P : ℕ → Type 0) → ((j : ℕ) → 1 ≤ j → j ≤ h.transitions → P j) → (fuel j : ℕ) → j ≤ h.transitions → Every P (walk s h fuel j)
  unfolding walk
  walk-all P k zero j l = tt
  walk-all P k (suc fuel) zero l = tt
  walk-all P k (suc fuel) (suc j) l =
      (k (suc j) (omega arith) l, walk-all P k fuel _ (transition-known s h g (suc j) (omega arith) l).next)

  pub chain-all : (P : ℕ → Type 0) → ((j : ℕ) → 1 ≤ j → j ≤ h.transitions → P j) → (p : ℕ) → p < h.states → Every P (chain s h p)
  unfolding chain
  chain-all P k p l = walk-all P k _ _ (first-known s h g p l).bound

  pub reached-all : (P : ℕ → Type 0) → ((j : ℕ) → 1 ≤ j → j ≤ h.transitions → P j) → Every P (reached s h h.states)
  unfolding reached
  reached-all P k = concat-keeps (chain s h) P h.states (λ p l. chain-all P k p l)

  pub reached-below : Below 1025 (reached s h h.states)
  reached-below = reached-all (λ x. x < 1025) (λ j a b. omega (arith, g.sized.bounds))

  pub successors-below : (p : ℕ) → p < h.states → Below 16640 (map (successor s h) (chain s h p))
  unfolding successor
  successors-below p l =
      every_map (λ x. x < 16640) (successor s h) (chain s h p)
      (chain-all (λ j. successor s h j < 16640) (λ j a b. let r = transition-known s h g j a b in omega (arith, g.sized.bounds)) p l)

-- ## An array of zeros
pub zeros-at : (n i : ℕ) → ◌≡◌ {A = ℕ} (get_or (replicate n 0) i 0) 0
zeros-at zero i = refl
zeros-at (suc n) zero = refl
zeros-at (suc n) (suc i) = zeros-at n i

pub zeros-long : (n : ℕ) → length (replicate {A = ℕ} n 0) ≡ n
zeros-long n = length-replicate n 0
