-- What a chain over a list or a range gives, said of the numbers below a bound: a sum, and whether all pass. Assumes nothing.
use Rattle.std.proofs.Common.{◌≡◌, refl, sym, ap, ◌∙◌, ℕ, zero, suc, ◌+◌, Bool, true, false, ◌&&◌, List, [], ◌∷◌, length, get_or, arith}
use Rattle.std.proofs.Math.Bool.{and_assoc}
use Rattle.std.specs.List.{sum_by, list_all, range_with_len}
use Rattle.std.proofs.lemmas.List.FromFn.{length-range_with_len, get_or-range_with_len}
use Rattle.std.proofs.lemmas.List.Sums.{sum_by-cons}
use Rattle.lts.specs.Bounded.{sum_below, all_below}
use Rattle.lts.proofs.Below.{sum-none, sum-cons, all-cong}

-- a sum over a list, place by place
pub sum-places : (f : ℕ → ℕ) (xs : List ℕ) → sum_by f xs ≡ sum_below (length xs) (λ j. f (get_or xs j 0))
sum-places f [] = sum-none _
sum-places f (x ∷ xs) = sum_by-cons f x xs ∙ ap (λ (m : ℕ). f x + m) (sum-places f xs) ∙ sym (sum-cons (length xs) (λ j. f (get_or (x ∷ xs) j 0)))

all-cons : (n : ℕ) (f : ℕ → Bool) → all_below (suc n) f ≡ f 0 && all_below n (λ i. f (suc i))
unfolding all_below
all-cons zero f = one (f 0)
  where
    one : (a : Bool) → true && a ≡ a && true
    one true = refl
    one false = refl
all-cons (suc n) f = ap (λ (b : Bool). b && f (suc n)) (all-cons n f) ∙ and_assoc (f 0) _ (f (suc n))

all-places : (f : ℕ → Bool) (xs : List ℕ) → list_all f xs ≡ all_below (length xs) (λ j. f (get_or xs j 0))
unfolding all_below
all-places f [] = refl
all-places f (x ∷ xs) = ap (λ (b : Bool). f x && b) (all-places f xs) ∙ sym (all-cons (length xs) (λ j. f (get_or (x ∷ xs) j 0)))

-- whether all of 0 .. n - 1 pass
pub all-range : (f : ℕ → Bool) (n : ℕ) → list_all f (range_with_len 0 n) ≡ all_below n f
all-range f n =
    all-places f (range_with_len 0 n)
    ∙ ap (λ (k : ℕ). all_below k (λ j. f (get_or (range_with_len 0 n) j 0))) (length-range_with_len 0 n)
    ∙ all-cong n _ _ (λ i h. ap f (get_or-range_with_len 0 n i 0 h ∙ omega arith))
