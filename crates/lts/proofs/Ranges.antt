-- An iterator chain over the numbers below n comes to what the definitions of `Bounded` say of them.
use Prim.Native.Nat.{ℕ, zero, suc, ◌+◌}
use native.Mathlib.Omega.{arith}
use mathlib.Core.Path.{◌≡◌, refl, sym, ◌∙◌, ap}
use mathlib.Core.Bool.{Bool, true, false, ◌&&◌}
use mathlib.Core.List.{List}
use lib.ListN.{length}
use denote.Param.Members.{Mut}
use Rattle.std.specs.Prelude.{Option, MatchOption}
use Rattle.std.specs.declared.ops.Range.{Range}
use Rattle.std.specs.List.{list_all, range_with_len, FoldsTo}
use Rattle.std.specs.Iterator.{YieldsThen}
use Rattle.std.specs.Fn.{Called}
use Rattle.std.proofs.iter.Yields.{nat_range_steps}
use Rattle.std.proofs.lemmas.Iterator.{YieldsList-from_range}
use Rattle.std.proofs.lemmas.Iterator.Search.{all_from_yields_List}
use Rattle.lts.specs.Bounded.{all_below}
use Rattle.lts.proofs.Below.{all-cong}

-- the first number, and those after it
all-cons : (n : ℕ) (f : ℕ → Bool) → all_below (suc n) f ≡ f 0 && all_below n (λ i. f (suc i))
unfolding all_below
all-cons zero f = sym (last (f 0))
  where
    last : (a : Bool) → a && true ≡ a
    last true = refl
    last false = refl
all-cons (suc n) f = ap (λ b. b && f (suc n)) (all-cons n f) ∙ grouped (f 0) (all_below n (λ i. f (suc i))) (f (suc n))
  where
    grouped : (a b c : Bool) → (a && b) && c ≡ a && (b && c)
    grouped true b c = refl
    grouped false b c = refl

from : (a n : ℕ) (f : ℕ → Bool) → list_all f (range_with_len a n) ≡ all_below n (λ i. f (a + i))
unfolding all_below
from a zero f = refl
from a (suc n) f = ap (λ b. f a && b) (from (a + 1) n f ∙ all-cong n _ _ (λ i h. ap f (omega arith))) ∙ at (a + 0) (omega arith) ∙ sym (all-cons n (λ i. f (a + i)))
  where
    at : (b : ℕ) → a ≡ b → f a && all_below n (λ i. f (a + suc i)) ≡ f b && all_below n (λ i. f (a + suc i))
    at b e = ap (λ x. f x && all_below n (λ i. f (a + suc i))) e

ranged : (n : ℕ) (f : ℕ → Bool) → list_all f (range_with_len 0 n) ≡ all_below n f
ranged n f = from 0 n f ∙ all-cong n _ _ (λ i h. ap f (omega arith))

-- `(0..n).all(..)`, whose closure gives `test i` at i: the clause `ran` of the call, and what the closure gives
pub all_range : {F : Type 0} {g : Mut F (ℕ × Unit {0}) Bool} {f : F} {u : Range ℕ} (n : ℕ) (test : ℕ → Bool) (r : Bool)
    → (xs : List ℕ) × (o : Option ℕ) × (j : F) × YieldsThen nat_range_steps (record { start = 0; end = n }) xs o u × FoldsTo (λ p x q. Called g p (x, tt) true q) f xs j
    × MatchOption o (r ≡ true) (λ x. (r ≡ false) × ((h : F) × Called g j (x, tt) false h))
    → ((x : ℕ) (b : Bool) (q : F) → Called g f (x, tt) b q → (q ≡ f) × (b ≡ test x)) → r ≡ all_below n test
all_range n test r ran gives = all_from_yields_List test _ _ r ran (YieldsList-from_range 0 n n refl (omega arith)) gives ∙ ranged n test
