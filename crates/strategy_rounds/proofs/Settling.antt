-- Which states are settled in a round: those whose rows the round left as they were. Assumes nothing.
use Prim.Native.Nat.{ℕ, ◌*◌, ◌<◌}
use mathlib.Core.Path.{◌≡◌, refl, sym, ◌∙◌, ap, ap₂}
use mathlib.Core.Bool.{Bool, true, false, not, ◌&&◌, ◌||◌, xor}
use mathlib.Core.List.{List}
use native.Mathlib.Omega.{arith}
use borrow.Author.Tests.{eq-eqb, not-true}
use lib.ListN.{drop, replicate}
use Rattle.lts.specs.Bounded.{any_below, all_below, restrict}
use Rattle.lts.specs.System.{Rel, Lts, into, any_state}
use Rattle.rows.specs.Rows.{in_row, row_of, row_words, states_below}
use Rattle.transitions.specs.Table.{states_of, count_of, source_at, action_at, target_at, table_lts, Formed}
use Rattle.relation.specs.Matrix.{relation_of, matrix_of, Matrix}
use Rattle.lts.proofs.Below.{clash, and-snd, all-at, any-yes, any-cong}
use Rattle.rows.proofs.Rows.{in_row-of, in_row-zeros, states-in}
use Rattle.relation.proofs.Matrices.{relation-of}
use Rattle.relation.proofs.Checks.{rows-differ}
use Rattle.strategy_rounds.specs.Rounds.{next_round, Settled, same_rows}
use Rattle.strategy_rounds.proofs.Steps.{answers_at, kept, kept-all}

-- ---- the states whose rows are the same

-- what the test of two rows says
pub row-test : (n p : ℕ) (g h : List ℕ) → Matrix n g → Matrix n h → p < n → {words : ℕ} {x y : List ℕ} {differs : Bool}
    → words ≡ row_words n → x ≡ drop (p * row_words n) g → y ≡ drop (p * row_words n) h → differs ≡ any_below (words * 64) (λ q. xor (in_row x q) (in_row y q))
    → same_rows n (relation_of n g) (relation_of n h) p ≡ not differs
unfolding same_rows
row-test n p g h okg okh hp {words} {x} {y} w e f d =
    ap not (sym (d ∙ ap (λ (k : ℕ). any_below (k * 64) (λ q. xor (in_row x q) (in_row y q))) w
    ∙ ap₂ (λ (x y : List ℕ). any_below (row_words n * 64) (λ q. xor (in_row x q) (in_row y q))) e f ∙ rows-differ n g h p p okg okh hp hp))

same_at : (n p q : ℕ) (A B : Rel) → same_rows n A B p ≡ true → q < n → A p q ≡ B p q
unfolding same_rows xor
same_at n p q A B e h = go (A p q) (B p q) (λ x. clash (sym (any-yes n (λ q. xor (A p q) (B p q)) q h x)) (not-true _ e))
  where
    go : (a b : Bool) → (xor a b ≡ true → ⊥) → a ≡ b
    go true true f = refl
    go true false f = absurd (f refl)
    go false true f = absurd (f refl)
    go false false f = refl

-- ---- rounds

module _ (t : List ℕ) (ok : Formed t) where
  abbrev n : ℕ
  n = states_of t

  abbrev k : ℕ
  k = count_of t

  abbrev L : Lts
  L = table_lts t

  -- before the first round nothing is settled
  pub settled-none : (W : Rel) → Settled t W (in_row (replicate {A = ℕ} 4 0))
  settled-none W i q _ _ x _ = absurd (clash x (in_row-zeros 4 (target_at t i)))

  -- a pair of the next round has an answer into this one
  into-before : (g : List ℕ) {h : List ℕ} → h ≡ matrix_of n (next_round L (restrict n (relation_of n g))) → (i q : ℕ) → i < k → q < n → relation_of n h (source_at t i) q ≡ true
      → into L (action_at t i) (relation_of n g (target_at t i)) q ≡ true
  unfolding kept answers_at
  into-before g {h} e i q hi hq w =
      let p = source_at t i in
      let R = relation_of n g in
      let tests = answers_at t R p q in
      let here : R p q && all_below k tests ≡ true = sym (relation-of n (kept t R k) (e ∙ sym (kept-all t ok R)) p q (ok.source i hi) hq) ∙ w in
      let test = all-at k tests (and-snd (R p q) (all_below k tests) here) i hi in
      sym (ap (λ (b : Bool). not b || into L (action_at t i) (R (target_at t i)) q) (eq-eqb p p refl)) ∙ test

  -- after a round what it left as it was is settled
  pub settled-next : (g : List ℕ) {h same : List ℕ} → h ≡ matrix_of n (next_round L (restrict n (relation_of n g)))
      → same ≡ row_of 4 (states_below n (same_rows n (relation_of n g) (relation_of n h)))
      → Settled t (relation_of n h) (in_row same)
  unfolding into any_state table_lts
  settled-next g {h} {same} e f i q hi hq x w =
      let r = target_at t i in
      let hr = ok.target i hi in
      let S = same_rows n (relation_of n g) (relation_of n h) in
      let row : S r ≡ true = sym (ap (λ (l : List ℕ). in_row l r) f ∙ in_row-of 4 (states_below n S) r (omega (arith, hr, ok.states)) ∙ states-in n S r hr) ∙ x in
      any-cong n _ _ (λ x hx. ap (λ (b : Bool). L.transition q (action_at t i) x && b) (sym (same_at n r x (relation_of n g) (relation_of n h) row hx)))
      ∙ into-before g e i q hi hq w
