-- The numbers of a table and the transitions of its system. Assumes nothing.
use Prim.Native.Nat.{ℕ, zero, suc, ◌+◌, ◌-◌, ◌≤◌, ◌<◌}
use mathlib.Core.Path.{◌≡◌, sym, ap, subst}
use mathlib.Core.Logic.{◌⊎◌, inl, inr, ◌↔◌}
use mathlib.Core.Bool.{true, ◌&&◌}
use mathlib.Core.List.{List}
use native.Mathlib.Omega.{arith}
use native.Mathlib.Nat.{eq-or-lt_of_le, le_of_suc-le-suc}
use native.Mathlib.Numerals.{add-one}
use lib.Dec.{T, eqb, eqb→eq, eqb_refl}
use Rattle.lts.specs.System.{WellFormed}
use Rattle.lts.proofs.Bounded.{and-iff, any-iff}
use Rattle.lts.proofs.Below.{lt-or-ge, T_true, true-T}
use Rattle.transitions.specs.Table.{states_of, actions_of, count_of, offset_at, source_at, action_at, target_at, is_entry, rank, table_lts, Formed}

-- equal numbers pass the test
pub eqb_of : {x y : ℕ} → x ≡ y → T (eqb x y)
eqb_of {x} e = subst (λ (z : ℕ). T (eqb x z)) e (eqb_refl x)

-- number i is the transition p, a, q exactly if its numbers are
pub entry-iff : (t : List ℕ) (p a q i : ℕ) → T (is_entry t p a q i) ↔ ((source_at t i ≡ p) × (action_at t i ≡ a) × (target_at t i ≡ q))
unfolding is_entry
entry-iff t p a q i =
    let x = eqb (source_at t i) p in
    let y = eqb (action_at t i) a in
    let z = eqb (target_at t i) q in (
      λ e. let w = (and-iff (x && y) z).0 e in let v = (and-iff x y).0 w.0 in (eqb→eq _ p v.0, eqb→eq _ a v.1, eqb→eq _ q w.1),
      λ e. (and-iff (x && y) z).1 ((and-iff x y).1 (eqb_of e.0, eqb_of e.1), eqb_of e.2),
    )

module _ (t : List ℕ) where
  -- each number is a transition, and each transition is a number
  pub entry-leads : (i : ℕ) {p a q : ℕ} → i < count_of t → source_at t i ≡ p → action_at t i ≡ a → target_at t i ≡ q → T ((table_lts t).transition p a q)
  unfolding table_lts
  entry-leads i {p} {a} {q} h source action target = (any-iff (count_of t) (is_entry t p a q)).1 (i, h, (entry-iff t p a q i).1 (source, action, target))

  pub entry_of : (p a q : ℕ) → T ((table_lts t).transition p a q)
      → (i : ℕ) × (i < count_of t) × (source_at t i ≡ p) × (action_at t i ≡ a) × (target_at t i ≡ q)
  unfolding table_lts
  entry_of p a q u =
      let s = (any-iff (count_of t) (is_entry t p a q)).0 u in
      let e = (entry-iff t p a q s.0).0 s.2 in
      (s.0, s.1, e.0, e.1, e.2)

  module _ (ok : Formed t) where
    pub table-formed : WellFormed (table_lts t)
    unfolding table_lts
    table-formed = record {
      source = λ p a q u. let i = entry_of p a q u in subst (λ (x : ℕ). x < states_of t) i.2 (ok.source i.0 i.1);
      action = λ p a q u.
          let i = entry_of p a q u in
          (subst (λ (x : ℕ). 1 ≤ x) i.3 (ok.named i.0 i.1), subst (λ (x : ℕ). x ≤ actions_of t) i.3 (ok.action i.0 i.1));
      target = λ p a q u. let i = entry_of p a q u in subst (λ (x : ℕ). x < states_of t) i.4 (ok.target i.0 i.1);
    }

    -- ---- the row of a state

    -- no offset is above the number of transitions
    pub offset-most : (p : ℕ) → p ≤ states_of t → offset_at t p ≤ count_of t
    offset-most p h = let d : p + (states_of t - p) ≡ states_of t = omega arith in go (states_of t - p) p d
      where
        go : (d p : ℕ) → p + d ≡ states_of t → offset_at t p ≤ count_of t
        go zero p e = let at : p ≡ states_of t = omega arith in omega (arith, ok.end, ap (λ (j : ℕ). offset_at t j) at)
        go (suc d) p e =
            let low : p < states_of t = omega arith in
            let next : p + 1 + d ≡ states_of t = omega arith in
            omega (arith, ok.rising p low, go d (p + 1) next)

    -- number i stands in row p
    abbrev pub InRow : ℕ → ℕ → Type 0
    InRow p i = (offset_at t p ≤ i) × (i < offset_at t (p + 1))

    module _ (p : ℕ) (hp : p < states_of t) where
      pub row_below : (i : ℕ) → i < offset_at t (p + 1) → i < count_of t
      row_below i h = let l : p + 1 ≤ states_of t = omega arith in omega (arith, offset-most (p + 1) l)

      pub row-most : offset_at t (p + 1) ≤ 1024
      row-most = let l : p + 1 ≤ states_of t = omega arith in omega (arith, offset-most (p + 1) l, ok.size)

      -- each number of the row is a transition of p, and each transition of p stands in the row
      pub row-transition : (i : ℕ) {a q : ℕ} → InRow p i → action_at t i ≡ a → target_at t i ≡ q → (table_lts t).transition p a q ≡ true
      row-transition i r ea et = T_true _ (entry-leads i (row_below i r.1) (ok.leaves p i hp r.0 r.1) ea et)

      pub transition-row : (a q : ℕ) → (table_lts t).transition p a q ≡ true → (i : ℕ) × InRow p i × (action_at t i ≡ a) × (target_at t i ≡ q)
      transition-row a q h =
          let s = entry_of p a q (true-T _ h) in
          (s.0, subst (λ (x : ℕ). InRow x s.0) s.2 (ok.row s.0 s.1), s.3, s.4)

      -- within a row, actions rise, and with the same action targets do
      pub row-sorted : (i j : ℕ) → i < j → InRow p i → InRow p j → (action_at t i < action_at t j) ⊎ ((action_at t i ≡ action_at t j) × (target_at t i < target_at t j))
      row-sorted i j l ri rj =
          let r = ok.before i j l (row_below j rj.1) in
          let si = ok.leaves p i hp ri.0 ri.1 in
          let sj = ok.leaves p j hp rj.0 rj.1 in
          let ti = ok.target i (row_below i ri.1) in
          let tj = ok.target j (row_below j rj.1) in
          go (lt-or-ge (action_at t i) (action_at t j)) r si sj ti tj
        where
          go : (action_at t i < action_at t j) ⊎ (action_at t j ≤ action_at t i) → rank t i < rank t j → source_at t i ≡ p → source_at t j ≡ p
              → target_at t i < states_of t → target_at t j < states_of t
              → (action_at t i < action_at t j) ⊎ ((action_at t i ≡ action_at t j) × (target_at t i < target_at t j))
          go (inl h) r si sj ti tj = inl h
          go (inr h) r si sj ti tj =
              let few = ok.states in
              inr (omega (arith, h, r, si, sj, ti, tj, few), omega (arith, h, r, si, sj, ti, tj, few))

-- ---- what holds from number `first` on and below i

abbrev pub Between : (ℕ → Type 0) → ℕ → ℕ → Type 0
Between P first i = (j : ℕ) → first ≤ j → j < i → P j

pub between_none : (P : ℕ → Type 0) (first i : ℕ) → i ≤ first → Between P first i
between_none P first i d j l h = absurd (omega arith)

pub between_more : (P : ℕ → Type 0) (first i : ℕ) → Between P first i → P i → Between P first (i + 1)
between_more P first i all here j l h = go (eq-or-lt_of_le (le_of_suc-le-suc (subst (λ (x : ℕ). suc j ≤ x) (add-one i) h)))
  where
    go : (j ≡ i) ⊎ (j < i) → P j
    go (inl e) = subst P (sym e) here
    go (inr m) = all j l m
