-- The search for the round at which a pair falls, on the matrices of the rounds of a table. Assumes nothing.
use Prim.Native.Nat.{ℕ, suc, ◌+◌, ◌*◌, ◌-◌, ◌^◌, ◌≤◌, ◌<◌}
use native.Mathlib.Nat.{eq-or-lt_of_le}
use native.Mathlib.Omega.{arith}
use native.Mathlib.Numerals.{add-one}
use mathlib.Core.Path.{◌≡◌, sym, ◌∙◌, ap, subst}
use mathlib.Core.Logic.{◌⊎◌, inl, inr}
use mathlib.Core.Bool.{Bool, true, false}
use mathlib.Core.List.{List}
use lib.ListN.{length, get_or, replicate}
use Rattle.lts.specs.Bounded.{restrict}
use Rattle.lts.specs.System.{Rel, Lts, WellFormed}
use Rattle.lts.specs.Rounds.{round}
use Rattle.lts.proofs.Bounded.{restrict-at, restrict-same}
use Rattle.rows.specs.Rows.{in_row, row_of, states_below}
use Rattle.transitions.specs.Table.{states_of, table_lts, Formed}
use Rattle.transitions.proofs.Entries.{table-formed}
use Rattle.relation.specs.Matrix.{relation_of, matrix_of, Matrix, pair_count}
use Rattle.relation.proofs.Matrices.{relation-of, matrix-relation, matrix-small, matrix_of-cong}
use Rattle.std.specs.Prelude.{Some, None}
use Rattle.lts.proofs.Below.{true-T}
use Rattle.strategy_rounds.specs.Rounds.{next_round, Settled, same_rows, RefutationOf}
use Rattle.strategy_rounds.proofs.Steps.{round-inside}
use Rattle.strategy_rounds.proofs.Settling.{settled-none, settled-next}
use Rattle.strategy_rounds.proofs.Refutations.{pairs-cong, refuted-before, pairs-fall, pairs-some, falls-first, falls-later, falls-never}

-- a matrix on the states of a table has at most 1,024 words
pub words-most : {t g : List ℕ} → Formed t → Matrix (states_of t) g → length g ≤ 1024
words-most {t} ok matrix = omega (arith, matrix.long, matrix-small (states_of t) ok.states)

-- round j from the start on has the matrix `current` and `left` pairs, (p, q) among them, and nothing is taken out for a settled state
pub record Searching (t start : List ℕ) (p q j left : ℕ) (current settled : List ℕ) : Type 0 where
  pub here : current ≡ matrix_of (states_of t) (round (table_lts t) (relation_of (states_of t) start) j)
  pub count : left ≡ pair_count (states_of t) (round (table_lts t) (relation_of (states_of t) start) j)
  pub room : left + j ≤ states_of t * states_of t
  pub related : round (table_lts t) (relation_of (states_of t) start) j p q ≡ true
  pub settles : Settled t (relation_of (states_of t) current) (in_row settled)

module _ (t : List ℕ) (ok : Formed t) (start : List ℕ) where
  abbrev n : ℕ
  n = states_of t

  abbrev L : Lts
  L = table_lts t

  abbrev R : Rel
  R = relation_of n start

  wf : WellFormed L
  wf = table-formed t ok

  -- the matrices of the rounds
  pub round-zero : Matrix n start → ((i : ℕ) → get_or start i 0 < 2 ^ 64) → start ≡ matrix_of n (round L R 0)
  unfolding round table_lts
  round-zero matrix fits = matrix-relation n start matrix fits ∙ matrix_of-cong n R (round L R 0) (λ p q hp hq. sym (restrict-at n R p q hp hq))

  pub round-next : (j : ℕ) {g h : List ℕ} → g ≡ matrix_of n (round L R j) → h ≡ matrix_of n (next_round L (restrict n (relation_of n g))) → h ≡ matrix_of n (round L R (j + 1))
  unfolding round table_lts next_round
  round-next j {g} {h} e f =
      let same = restrict-same n (relation_of n g) (round L R j) (λ p q hp hq. relation-of n (round L R j) e p q hp hq) ∙ round-inside L R j in
      f ∙ ap (λ (W : Rel). matrix_of n (next_round L W)) same ∙ ap (λ (i : ℕ). matrix_of n (round L R i)) (sym (add-one j))

  pairs-most : (j : ℕ) → pair_count n (round L R j) ≤ n * n
  unfolding table_lts
  pairs-most j = let total = refuted-before L R j in omega (arith, total)

  -- what is read of a round's matrix, with the number of states as it was read
  module _ {states : ℕ} (es : states ≡ n) (j : ℕ) {g : List ℕ} (e : g ≡ matrix_of n (round L R j)) where
    related-is : (p q : ℕ) {has : Bool} → p < n → q < n → has ≡ relation_of states g p q → has ≡ round L R j p q
    related-is p q hp hq h = h ∙ ap (λ (k : ℕ). relation_of k g p q) es ∙ relation-of n (round L R j) e p q hp hq

    count-is : {count : ℕ} → count ≡ pair_count states (relation_of states g) → count ≡ pair_count n (round L R j)
    count-is h = h ∙ ap (λ (k : ℕ). pair_count k (relation_of k g)) es ∙ pairs-cong n _ _ (λ p q hp hq. relation-of n (round L R j) e p q hp hq)

  module _ (p q : ℕ) (hp : p < n) (hq : q < n) {states : ℕ} (es : states ≡ n) where
    -- ---- the start

    module _ (matrix : Matrix n start) (fits : (i : ℕ) → get_or start i 0 < 2 ^ 64) {has : Bool} (read : has ≡ relation_of states start p q) where
      pub falls-at-first : has ≡ false → RefutationOf L R p q (Some (record { round = 0; count = 1 }))
      falls-at-first gone = falls-first L R wf p q (sym (related-is es 0 (round-zero matrix fits) p q hp hq read) ∙ gone)

      pub search-starts : has ≡ true → {left : ℕ} → left ≡ pair_count states (relation_of states start) → Searching t start p q 0 left start (replicate {A = ℕ} 4 0)
      search-starts here {left} counted =
          let first = round-zero matrix fits in
          let count = count-is es 0 first counted in
          record {
            here = first;
            count = count;
            room = omega (arith, count, pairs-most 0);
            related = sym (related-is es 0 first p q hp hq read) ∙ here;
            settles = settled-none t ok R;
          }

    -- a related pair is left in each round, so that there is none after n * n rounds
    pub search-ends : {j left : ℕ} {current settled : List ℕ} → Searching t start p q j left current settled → states * states ≤ j → RefutationOf L R p q None
    unfolding table_lts
    search-ends {j} s most =
        let some = pairs-some L R j p q hp hq (true-T _ s.related) in
        let full = subst (λ (k : ℕ). k * k ≤ j) es most in
        absurd (omega (arith, some, full, s.count, s.room))

    -- ---- a round

    module _ {j left : ℕ} {current settled next : List ℕ} (s : Searching t start p q j left current settled) (made : next ≡ matrix_of n (next_round L (restrict n (relation_of n current)))) where
      pub falls-later-on : {has : Bool} → has ≡ relation_of states next p q → has ≡ false
          → RefutationOf L R p q (Some (record { round = j + 1; count = states * states - left + 1 }))
      unfolding table_lts
      falls-later-on read gone =
          let after = sym (related-is es (j + 1) (round-next j s.here made) p q hp hq read) ∙ gone in
          let found = falls-later L R wf p q j left hp hq s.related (ap (λ (i : ℕ). round L R i p q) (sym (add-one j)) ∙ after) s.count s.room in
          subst (λ (k : ℕ). RefutationOf L R p q (Some (record { round = j + 1; count = k * k - left + 1 }))) (sym es) found

      module _ {rest : ℕ} (counted : rest ≡ pair_count states (relation_of states next)) where
        count : rest ≡ pair_count n (round L R (suc j))
        count = count-is es (j + 1) (round-next j s.here made) counted ∙ ap (λ (i : ℕ). pair_count n (round L R i)) (add-one j)

        pub falls-at-none : rest ≡ left → RefutationOf L R p q None
        unfolding table_lts
        falls-at-none same = falls-never L R wf p q j s.related (sym count ∙ same ∙ s.count)

        module _ (other : rest ≡ left → ⊥) where
          pub fewer : rest < left
          unfolding table_lts
          fewer = let fall = pairs-fall L R j in let most : rest ≤ left = omega (arith, fall, count, s.count) in go (eq-or-lt_of_le most)
            where
              go : (rest ≡ left) ⊎ (rest < left) → rest < left
              go (inl e) = absurd (other e)
              go (inr h) = h

          pub search-goes-on : {has : Bool} {copy same : List ℕ} → has ≡ relation_of states next p q → has ≡ true
              → same ≡ row_of 4 (states_below states (same_rows states (relation_of states current) (relation_of states next)))
              → copy ≡ next → Searching t start p q (j + 1) rest copy same
          search-goes-on {has} {copy} {same} read here settled copied =
              let after = round-next j s.here made in
              let rows = settled ∙ ap (λ (k : ℕ). row_of 4 (states_below k (same_rows k (relation_of k current) (relation_of k next)))) es in
              record {
                here = copied ∙ after;
                count = count-is es (j + 1) after counted;
                room = let less = fewer in omega (arith, less, s.room);
                related = sym (related-is es (j + 1) after p q hp hq read) ∙ here;
                settles = subst (λ (l : List ℕ). Settled t (relation_of n l) (in_row same)) (sym copied) (settled-next t ok current made rows);
              }
