-- What the functions that write a strategy write: the entries of the pairs that leave one relation for the next.
use Rattle.std.specs.Prelude.{ℕ, zero, suc, ◌<◌, ◌≡◌, Bool, true, false, cond, not, ◌&&◌, List, [], ◌∷◌, length}
use Rattle.std.proofs.lemmas.List.Edits.{sets}
use Rattle.lts.specs.Bounded.{concat_below, lowest, restrict}
use Rattle.lts.specs.System.{Rel, Lts, any_state}
use Rattle.lts.specs.Rounds.{round}
use Rattle.lts.specs.declared.Entry.{Entry}
use Rattle.lts.specs.Strategy.{unanswered, entry_numbers, entries_before}
use Rattle.transitions.specs.Table.{states_of, actions_of, count_of, action_at, target_at, table_lts, Formed}
use Rattle.relation.specs.Matrix.{relation_of, matrix_of, Matrix}
use Rattle.strategy_rounds.specs.Rounds.{next_round}

-- the pairs of states of the table t that the matrix g holds
abbrev pub pairs_of : List ℕ → List ℕ → Rel
pairs_of t g = restrict (states_of t) (relation_of (states_of t) g)

-- number r of the table t is the transition p, a, x to which q has no answer in W, with a the lowest, then x
pub record Unanswered (t : List ℕ) (W : Rel) (p q r : ℕ) : Type 0 where
  pub below : r < count_of t
  pub action : action_at t r ≡ suc (lowest (actions_of t) (λ b. any_state (table_lts t) (unanswered (table_lts t) W p q (suc b))))
  pub target : target_at t r ≡ lowest (states_of t) (unanswered (table_lts t) W p q (action_at t r))

-- g and h are matrices of two rounds on the table t, the one after the other; at round 0 nothing is asked
pub record Consecutive (t : List ℕ) (initial : Bool) (g h : List ℕ) : Type 0 where
  pub formed : Formed t
  pub before : Matrix (states_of t) g
  pub after : Matrix (states_of t) h
  pub follows : initial ≡ false → pairs_of t h ≡ next_round (table_lts t) (pairs_of t g)

-- the entry of a pair that leaves W: a = t = 0 at round 0, otherwise the lowest a, then the lowest t, with no answer in W
unfoldable pub entry_from : Lts → Bool → Rel → ℕ → ℕ → Entry
entry_from L true W p q = record { p = p; q = q; a = 0; t = 0 }
entry_from L false W p q =
    let a = suc (lowest L.actions (λ b. any_state L (unanswered L W p q (suc b)))) in
    record { p = p; q = q; a = a; t = lowest L.states (unanswered L W p q a) }

-- the entries of the pair (p, q), of row p and of all rows, if the pairs are in B and not in A
unfoldable pub cell_entries : Lts → Bool → Rel → Rel → ℕ → ℕ → List Entry
cell_entries L initial B A p q = cond (B p q && not (A p q)) (entry_from L initial B p q ∷ []) []

unfoldable pub row_entries : Lts → Bool → Rel → Rel → ℕ → List Entry
row_entries L initial B A p = concat_below L.states (cell_entries L initial B A p)

unfoldable pub round_entries : Lts → Bool → Rel → Rel → List Entry
round_entries L initial B A = concat_below L.states (row_entries L initial B A)

-- the pairs that round j looks at: all of them at round 0, otherwise W(j - 1)
unfoldable pub previous : Lts → Rel → ℕ → Rel
previous L start zero p q = true
previous L start (suc j) p q = round L start j p q

-- the `at` entries of the pairs that fall before round r, from the start on, are written into d, which is then `numbers`; `current` is the
-- matrix of the pairs that round r looks at
pub record WrittenBefore (t start d : List ℕ) (r at : ℕ) (current numbers : List ℕ) : Type 0 where
  pub place : at ≡ length (entries_before (table_lts t) (relation_of (states_of t) start) r)
  pub looked : current ≡ matrix_of (states_of t) (previous (table_lts t) (relation_of (states_of t) start) r)
  pub written : numbers ≡ sets d 0 (entry_numbers (entries_before (table_lts t) (relation_of (states_of t) start) r))
