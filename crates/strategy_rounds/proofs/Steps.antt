-- One round on a transition table. Assumes nothing.
use Prim.Native.Nat.{ℕ, zero, suc, ◌+◌, ◌*◌, ◌<◌}
use mathlib.Core.Path.{◌≡◌, refl, sym, ◌∙◌, ap, ap₂, subst, subst⁻¹, fun_ext}
use mathlib.Core.Logic.{◌⊎◌, inl, inr}
use mathlib.Core.Bool.{Bool, true, false, cond, ◌&&◌, ◌||◌, and-true, and_assoc}
use mathlib.Core.List.{List}
use native.Mathlib.Omega.{arith}
use native.Mathlib.Numerals.{add-one}
use lib.Dec.{T, eqb, eqb→eq}
use lib.ListN.{length, drop, replicate}
use borrow.Author.Tests.{eq-eqb, ne_eqb, eqb-false}
use Rattle.lts.specs.Bounded.{◌⇒◌, all_below, restrict}
use Rattle.lts.specs.System.{Set, Rel, Lts, into, answered}
use Rattle.lts.specs.Rounds.{round}
use Rattle.lts.proofs.Bounded.{and-iff, imp-iff, all-iff, test-ext, restrict-iff, restrict-at, restrict-same}
use Rattle.lts.proofs.System.{into-to, into-from, answered-iff}
use Rattle.rows.specs.Rows.{in_row, row_of, row_words}
use Rattle.relation.specs.Matrix.{relation_of, matrix_of, set_row}
use Rattle.lts.proofs.Below.{either, true-T, and-fst}
use Rattle.rows.proofs.Rows.{in_row-of, in_row-zeros}
use Rattle.relation.proofs.Matrices.{in_row-drop, relation-of, matrix_of-cong, set_here, set_other}
use Rattle.transitions.specs.Table.{states_of, count_of, source_at, action_at, target_at, table_lts, Formed}
use Rattle.transitions.proofs.Entries.{eqb_of, entry-leads, entry_of, table-formed}
use Rattle.strategy_rounds.specs.Rounds.{next_round, Settled}

eq-or-not : (a b : ℕ) → (a ≡ b) ⊎ (a ≡ b → ⊥)
eq-or-not a b = go (either (eqb a b))
  where
    go : (eqb a b ≡ true) ⊎ (eqb a b ≡ false) → (a ≡ b) ⊎ (a ≡ b → ⊥)
    go (inl e) = inl (eqb→eq a b (true-T _ e))
    go (inr e) = inr (eqb-false a b e)

restrict-twice : (n : ℕ) (R : Rel) → restrict n (restrict n R) ≡ restrict n R
restrict-twice n R = restrict-same n (restrict n R) R (λ p q hp hq. restrict-at n R p q hp hq)

module _ (t : List ℕ) where
  -- state p is not the source of number j, or q has an answer to it into R
  unfoldable pub answers_at : Rel → ℕ → ℕ → ℕ → Bool
  answers_at R p q j = eqb (source_at t j) p ⇒ into (table_lts t) (action_at t j) (R (target_at t j)) q

  -- the pairs of R with an answer to each of the first i transitions
  unfoldable pub kept : Rel → ℕ → Rel
  kept R i p q = R p q && all_below i (answers_at R p q)

module _ (t : List ℕ) (ok : Formed t) where
  abbrev n : ℕ
  n = states_of t

  abbrev k : ℕ
  k = count_of t

  abbrev L : Lts
  L = table_lts t

  abbrev keeps : Rel → ℕ → Rel
  keeps = kept t

  abbrev answers : Rel → ℕ → ℕ → ℕ → Bool
  answers = answers_at t

  pub kept-none : (R : Rel) → matrix_of n R ≡ matrix_of n (keeps R 0)
  unfolding kept all_below
  kept-none R = matrix_of-cong n R (keeps R 0) (λ p q _ _. sym (and-true (R p q)))

  kept_here : (R : Rel) (p q i : ℕ) → source_at t i ≡ p → keeps R (i + 1) p q ≡ keeps R i p q && into L (action_at t i) (R (target_at t i)) q
  unfolding kept all_below answers_at
  kept_here R p q i e = rw (add-one, eq-eqb _ _ e) (sym (and_assoc (R p q) (all_below i (answers R p q)) (into L (action_at t i) (R (target_at t i)) q)))

  kept-other : (R : Rel) (p q i : ℕ) → (source_at t i ≡ p → ⊥) → keeps R (i + 1) p q ≡ keeps R i p q
  unfolding kept all_below answers_at
  kept-other R p q i e = rw (add-one, ne_eqb _ _ e) (ap (λ (b : Bool). R p q && b) (and-true (all_below i (answers R p q))))

  pub kept_more : (R : Rel) (i : ℕ) {g : List ℕ} → i < k → g ≡ matrix_of n (keeps R i)
      → matrix_of n (set_row (source_at t i) (λ q. relation_of n g (source_at t i) q && into L (action_at t i) (R (target_at t i)) q) (relation_of n g)) ≡ matrix_of n (keeps R (i + 1))
  kept_more R i {g} h e = matrix_of-cong n _ _ (λ p q hp hq. go p q hp hq (eq-or-not (source_at t i) p))
    where
      S : Set
      S q = relation_of n g (source_at t i) q && into L (action_at t i) (R (target_at t i)) q

      go : (p q : ℕ) → p < n → q < n → (source_at t i ≡ p) ⊎ (source_at t i ≡ p → ⊥) → set_row (source_at t i) S (relation_of n g) p q ≡ keeps R (i + 1) p q
      go p q hp hq (inl s) =
          subst (λ (x : ℕ). set_row (source_at t i) S (relation_of n g) x q ≡ keeps R (i + 1) x q) s
          (set_here (source_at t i) S (relation_of n g) q
          ∙ ap (λ (b : Bool). b && into L (action_at t i) (R (target_at t i)) q) (relation-of n (keeps R i) e (source_at t i) q (ok.source i h) hq)
          ∙ sym (kept_here R (source_at t i) q i refl))
      go p q hp hq (inr s) = set_other (source_at t i) S (relation_of n g) p q (λ z. s (sym z)) ∙ relation-of n (keeps R i) e p q hp hq ∙ sym (kept-other R p q i s)

  -- a transition into a state of X takes nothing out
  pub kept-settled : (R : Rel) (X : Set) (i : ℕ) → Settled t R X → i < k → X (target_at t i) ≡ true → matrix_of n (keeps R i) ≡ matrix_of n (keeps R (i + 1))
  unfolding kept
  kept-settled R X i settled h x = matrix_of-cong n _ _ (λ p q _ hq. go p q hq (eq-or-not (source_at t i) p))
    where
      absorb : (a b : Bool) → (a ≡ true → b ≡ true) → a ≡ a && b
      absorb true b f = sym (f refl)
      absorb false b f = refl

      go : (p q : ℕ) → q < n → (source_at t i ≡ p) ⊎ (source_at t i ≡ p → ⊥) → keeps R i p q ≡ keeps R (i + 1) p q
      go p q hq (inl e) =
          absorb (keeps R i p q) (into L (action_at t i) (R (target_at t i)) q)
          (λ f. settled i q h hq x (ap (λ (s : ℕ). R s q) e ∙ and-fst (R p q) (all_below i (answers R p q)) f))
          ∙ sym (kept_here R p q i e)
      go p q hq (inr e) = sym (kept-other R p q i e)

  answered-table : (R : Rel) (p q : ℕ) → all_below k (answers R p q) ≡ answered L (restrict n R) p q
  unfolding answers_at table_lts
  answered-table R p q = test-ext _ _ to from
    where
      to : T (all_below k (answers R p q)) → T (answered L (restrict n R) p q)
      to e = (answered-iff (table-formed t ok) (restrict n R) p q).1 (λ a r move.
          let i = entry_of t p a r move in
          let j = i.0 in
          let test = (all-iff k (answers R p q)).0 e j i.1 in
          let answer = (imp-iff (eqb (source_at t j) p) (into L (action_at t j) (R (target_at t j)) q)).0 test (eqb_of i.2) in
          let s = into-to L (action_at t j) (R (target_at t j)) q answer in
          let reply = subst (λ (x : ℕ). T (L.transition q x s.0)) i.3 s.1 in (
            s.0,
            reply,
            (restrict-iff n R r s.0).1 (
              (table-formed t ok).target p a r move,
              (table-formed t ok).target q a s.0 reply,
              subst (λ (x : ℕ). T (R x s.0)) i.4 s.2,
            ),
          ))

      from : T (answered L (restrict n R) p q) → T (all_below k (answers R p q))
      from e = (all-iff k (answers R p q)).1 (λ j h.
          (imp-iff (eqb (source_at t j) p) (into L (action_at t j) (R (target_at t j)) q)).1 (λ source.
          let move = entry-leads t j h (eqb→eq _ _ source) refl refl in
          let s = (answered-iff (table-formed t ok) (restrict n R) p q).0 e (action_at t j) (target_at t j) move in
          into-from (table-formed t ok) (action_at t j) (R (target_at t j)) q (s.0, s.1, ((restrict-iff n R (target_at t j) s.0).0 s.2).2)))

  pub kept-all : (R : Rel) → matrix_of n (keeps R k) ≡ matrix_of n (next_round L (restrict n R))
  unfolding kept next_round
  kept-all R = matrix_of-cong n (keeps R k) (next_round L (restrict n R)) (λ p q hp hq. ap₂ (λ (a b : Bool). a && b) (sym (restrict-at n R p q hp hq)) (answered-table R p q))

  -- what is kept by the set of the states with an answer to number i into g, which was gathered from nothing
  module _ (g h : List ℕ) (i : ℕ) {states p a r : ℕ} {reached set : List ℕ} (es : states ≡ n) (ep : p ≡ source_at t i) (ea : a ≡ action_at t i) (er : r ≡ target_at t i)
      (row : reached ≡ drop (r * row_words states) g)
      (gathered : set ≡ row_of (length (replicate {A = ℕ} 4 0)) (λ q. in_row (replicate 4 0) q || into L a (in_row reached) q)) where
    answer-set : (q : ℕ) → q < n → in_row set q ≡ into L (action_at t i) (relation_of n g (target_at t i)) q
    answer-set q hq =
        ap (λ (l : List ℕ). in_row l q) gathered ∙ in_row-of 4 (λ q. in_row (replicate 4 0) q || into L a (in_row reached) q) q (omega (arith, hq, ok.states))
        ∙ ap (λ (b : Bool). b || into L a (in_row reached) q) (in_row-zeros 4 q)
        ∙ ap₂ (λ (x : ℕ) (X : Set). into L x X q) ea
        (ap in_row (row ∙ ap₂ (λ (x y : ℕ). drop (x * row_words y) g) er es) ∙ fun_ext (λ x. in_row-drop (row_words n) g (target_at t i) x))

    pub kept-answers : {out : List ℕ} → out ≡ matrix_of states (set_row p (λ q. relation_of states h p q && in_row set q) (relation_of states h))
        → out ≡ matrix_of n (set_row (source_at t i) (λ q. relation_of n h (source_at t i) q && into L (action_at t i) (relation_of n g (target_at t i)) q) (relation_of n h))
    kept-answers e =
        e ∙ ap₂ (λ (x y : ℕ). matrix_of x (set_row y (λ q. relation_of x h y q && in_row set q) (relation_of x h))) es ep
        ∙ matrix_of-cong n _ _ (λ x q hx hq. ap (λ (b : Bool). cond (eqb x (source_at t i)) (relation_of n h (source_at t i) q && b) (relation_of n h x q)) (answer-set q hq))

-- ---- the rounds as matrices

module _ (L : Lts) (start : Rel) where
  pub round-inside : (j : ℕ) → restrict L.states (round L start j) ≡ round L start j
  unfolding round
  round-inside zero = restrict-twice L.states start
  round-inside (suc j) = fun_ext (λ p. fun_ext (λ q. inside (round-inside j) p q))
    where
      inside : restrict L.states (round L start j) ≡ round L start j → (p q : ℕ) → restrict L.states (round L start (suc j)) p q ≡ round L start (suc j) p q
      inside ih p q =
          let e = restrict-iff L.states (round L start (suc j)) p q in
          test-ext _ _ (λ t. (e.0 t).2) (λ t.
          let old = ((and-iff (round L start j p q) (answered L (round L start j) p q)).0 t).0 in
          let c = (restrict-iff L.states (round L start j) p q).0 (subst⁻¹ (λ (W : Rel). T (W p q)) ih old) in
          e.1 (c.0, c.1, t))
