-- Laws of transitivity, which is tested row by row, and of what is left to test of a row. Assumes nothing.
use mathlib.Core.Path.{◌≡◌, refl, sym, ap, ap₂, ◌∙◌}
use mathlib.Core.Bool.{Bool, true, false, not, ◌&&◌}
use mathlib.Core.List.{List, ◌++◌}
use mathlib.Core.Logic.{⊎_elim}
use Prim.Native.Nat.{ℕ, ◌*◌, ◌≤◌, ◌<◌}
use native.Mathlib.Omega.{arith}
use lib.ListN.{length, drop}
use Rattle.lts.specs.Bounded.{◌⇒◌}
use Rattle.rows.specs.Rows.{in_row, word_at, row_of, row_words, states_below, Next, included_below}
use Rattle.relation.specs.Matrix.{relation_of}
use Rattle.relation.specs.Check.{transitive_pair, transitive_at}
use Rattle.relation.specs.Tested.{Left}
use Rattle.lts.proofs.Below.{length-list_below, all_of, all-at, all-cong, and-fst, clash, either, lt-or-ge}
use Rattle.rows.proofs.Rows.{in_row-of, length-written, states-in}
use Rattle.relation.proofs.Rows.{zipped-row}

module _ (n : ℕ) (R : ℕ → ℕ → Bool) where
  pub pair-none : (p q : ℕ) → R p q ≡ false → transitive_pair n R p q ≡ true
  unfolding transitive_pair
  pair-none p q e = all_of n _ (λ r h. ap (λ (b : Bool). b && R q r ⇒ R p r) e)

  pub pair-some : (p q : ℕ) → R p q ≡ true → included_below n (R q) (R p) ≡ transitive_pair n R p q
  unfolding transitive_pair included_below
  pair-some p q e = all-cong n _ _ (λ r h. sym (ap (λ (b : Bool). b && R q r ⇒ R p r) e))

  pair_step : (p q r : ℕ) → r < n → transitive_pair n R p q ≡ true → R p q ≡ true → R q r ≡ true → R p r ≡ true
  unfolding transitive_pair
  pair_step p q r h all e f = apply (R p q && R q r) (ap₂ ◌&&◌ e f) (all-at n _ all r h)
    where
      apply : (a : Bool) {b : Bool} → a ≡ true → (a ⇒ b) ≡ true → b ≡ true
      apply true e f = f
      apply false e f = absurd (clash e refl)

  -- q passes, and is transitive itself: what it is related to passes too
  pair-through : (p q r : ℕ) → r < n → transitive_pair n R p q ≡ true → R p q ≡ true → transitive_at n R q ≡ true → R q r ≡ true → transitive_pair n R p r ≡ true
  unfolding transitive_pair transitive_at
  pair-through p q r h all e at f = all_of n _ (λ t l. imply (R p r) (R r t) (R p t) (λ g. pair_step p q t l all e (pair_step q r t l (all-at n _ at r h) f g)))
    where
      imply : (a b c : Bool) → (b ≡ true → c ≡ true) → (a && b ⇒ c) ≡ true
      imply true true c k = k refl
      imply true false c k = refl
      imply false b c k = refl

  module _ (p : ℕ) (left : List ℕ) (ok : Left n R p left) where
    -- the states up to the next one that is left
    pub left-skip : (bound start next : ℕ) → Next (in_row left) bound start next → ((t : ℕ) → t < start → t < n → transitive_pair n R p t ≡ true)
        → (t : ℕ) → t < next → t < n → transitive_pair n R p t ≡ true
    left-skip bound start next found before t h l =
        ⊎_elim (λ (k : t < start). before t k l) (λ (k : start ≤ t). ok.passed t l (found.none t k h)) (lt-or-ge t start)

    pub left-next : (bound start next : ℕ) → n ≤ bound → Next (in_row left) bound start next → next < n → in_row left next ≡ true
    left-next bound start next room found h = found.member (omega arith)

-- row p of the matrix has yet to be tested
pub left-whole : (n : ℕ) (R : ℕ → ℕ → Bool) (p : ℕ) (left : List ℕ) → n ≤ 256 → left ≡ row_of 4 (states_below n (R p)) → Left n R p left
left-whole n R p left small is = record {
  long = omega (arith, ap length is, length-list_below 4 (word_at (states_below n (R p))));
  members = λ q h e. sym (same q h) ∙ e;
  passed = λ q h e. pair-none n R p q (sym (same q h) ∙ e);
}
  where
    same : (q : ℕ) → q < n → in_row left q ≡ R p q
    same q h = ap (λ (l : List ℕ). in_row l q) is ∙ in_row-of 4 (states_below n (R p)) q (omega arith) ∙ states-in n (R p) q h

-- row q of the matrix is taken out of what is left of row p: q passes, and is transitive itself
pub left_less : (n : ℕ) (g : List ℕ) (p q : ℕ) (left less row : List ℕ) {w : ℕ} → w ≡ row_words n → Left n (relation_of n g) p left → q < n → in_row left q ≡ true
    → transitive_pair n (relation_of n g) p q ≡ true → transitive_at n (relation_of n g) q ≡ true → row ≡ drop (q * row_words n) g
    → less ≡ row_of w (λ x. in_row left x && not (in_row row x)) ++ drop w left → Left n (relation_of n g) p less
left_less n g p q left less row {w} width ok hq here pass through at written = record {
  long = omega (arith, ap length written, length-written w (λ x. in_row left x && not (in_row row x)) left (omega (arith, width, ok.long)), ok.long);
  members = λ r h e. ok.members r h (and-fst (in_row left r) _ (sym (same r h) ∙ e));
  passed = λ r h e. ⊎_elim
      (λ (k : in_row left r ≡ true). pair-through n (relation_of n g) p q r h pass (ok.members q hq here) through
      (out (relation_of n g q r) (ap (λ (b : Bool). b && not (relation_of n g q r)) (sym k) ∙ sym (same r h) ∙ e)))
      (λ (k : in_row left r ≡ false). ok.passed r h k) (either (in_row left r));
}
  where
    same : (r : ℕ) → r < n → in_row less r ≡ in_row left r && not (relation_of n g q r)
    same = zipped-row n q g (λ a b. a && not b) left width at written

    out : (b : Bool) → not b ≡ false → b ≡ true
    out true e = refl
    out false e = absurd (clash refl e)
