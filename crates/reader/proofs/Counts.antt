-- A loop that counts indices by the records that they name.
use Prim.Native.Nat.{ℕ, ◌+◌, ◌≤◌, ◌<◌}
use mathlib.Core.Path.{◌≡◌, refl, sym, ap, ◌∙◌}
use mathlib.Core.Bool.{cond}
use mathlib.Core.List.{List}
use native.Mathlib.Omega.{arith}
use native.Mathlib.Nat.{add-zero}
use native.Mathlib.Decide.{ℕ_discrete}
use borrow.Author.Tests.{eq-eqb, ne_eqb}
use lib.ListN.{length, get_or, set, length-set}
use lib.Seq.{get_or-set_same, get_or-set_other}
use lib.Dec.{eqb, leb}
use Rattle.lts.specs.Bounded.{list_below, lowest}
use Rattle.lts.proofs.Below.{length-list_below, list_below-add, lowest-cong}
use Rattle.encoding.specs.declared.Header.{Header}
use Rattle.encoding.specs.Records.{state_record, transition_record}
use Rattle.encoding.specs.Encoding.{indices, occurrences, named_twice}
use Rattle.encoding.specs.Checked.{Bounds}
use Rattle.reader.specs.Marks.{Counted}
use Rattle.encoding.proofs.Members.{occurrences-append, occurrences-most}

-- ## A loop that counts f 0, f 1, .. on top of m₀: after p turns
pub counted_none : (f : ℕ → ℕ) (m : List ℕ) → Counted (list_below 0 f) m m
unfolding list_below occurrences
counted_none f m = record { long = refl; at = λ j. omega arith }

module _ (f : ℕ → ℕ) {m₀ m : List ℕ} (p : ℕ) (c : Counted (list_below p f) m₀ m) where
  occurrences-more : (x : ℕ) → occurrences x (list_below (p + 1) f) ≡ occurrences x (list_below p f) + cond (eqb x (f p)) 1 0
  unfolding list_below occurrences
  occurrences-more x = rw (list_below-add, occurrences-append, add-zero p) (omega arith)

  pub counted-more : (j : ℕ) → j ≡ f p → j < length m → Counted (list_below (p + 1) f) m₀ (set m j (get_or m j 0 + 1))
  counted-more j e l = record { long = length-set m j _ ∙ c.long; at = λ x. go x (ℕ_discrete x j) }
    where
      go : (x : ℕ) → Dec (x ≡ j) → get_or (set m j (get_or m j 0 + 1)) x 0 ≡ get_or m₀ x 0 + occurrences x (list_below (p + 1) f)
      go x (yes q) = rw (occurrences-more, eq-eqb x (f p) (q ∙ e), q, get_or-set_same m j _ 0 l) (omega (arith, c.at j))
      go x (no n) = rw (occurrences-more, ne_eqb x (f p) (λ q. n (q ∙ sym e)), get_or-set_other m j x _ 0 n) (omega (arith, c.at x))

  pub counted-most : (j : ℕ) → get_or m₀ j 0 ≤ 256 → get_or m j 0 ≤ 256 + p
  counted-most j l = omega (arith, c.at j, occurrences-most j (list_below p f), length-list_below p f)

  pub counted-all : (n : ℕ) → p ≤ n → n ≤ p → Counted (list_below n f) m₀ m
  counted-all n l g = let e : n ≡ p = omega arith in rw e c

-- ## The first and the next indices, counted from zeros
module _ (s : List ℕ) (h : Header) {m₀ m₁ : List ℕ} (zeros : (j : ℕ) → get_or m₀ j 0 ≡ 0)
    (c : Counted (list_below h.states (λ p. (state_record s h p).first)) m₀ m₁) where
  pub firsts-most : Bounds h → (j : ℕ) → get_or m₁ j 0 ≤ 256
  firsts-most b j =
      let l = list_below h.states (λ p. (state_record s h p).first) in
      omega (arith, b, c.at j, zeros j, occurrences-most j l, length-list_below h.states (λ p. (state_record s h p).first))

  -- the lowest record that is counted twice is the lowest that two indices name
  pub counted-lowest : {m₂ : List ℕ} {r : ℕ} → Counted (list_below h.transitions (λ i. (transition_record s h (i + 1)).next)) m₁ m₂
      → r ≡ lowest h.transitions (λ i. leb 2 (get_or m₂ (i + 1) 0)) → r ≡ lowest h.transitions (λ i. named_twice s h (i + 1))
  unfolding named_twice indices
  counted-lowest {m₂} d e = e ∙ lowest-cong h.transitions _ _ (λ i. ap (leb 2) (at (i + 1)))
    where
      at : (j : ℕ) → get_or m₂ j 0 ≡ occurrences j (indices s h)
      at j = rw occurrences-append (omega (arith, d.at j, c.at j, zeros j))
