-- The transitions of a table's system, by their numbers.
use Prim.Native.Nat.{ℕ, ◌+◌, ◌≤◌, ◌<◌}
use mathlib.Core.Path.{◌≡◌, sym, ap, ◌∙◌}
use mathlib.Core.List.{List, [], ◌∷◌}
use native.Mathlib.Omega.{arith}
use native.Mathlib.Numerals.{add-one}
use lib.ListN.{drop, drop_of_length-le}
use lib.Seq.{drop-cons}
use Rattle.lts.specs.Transitions.{Transition, transitions}
use Rattle.lts.proofs.Transitions.{nth}
use Rattle.transitions.specs.Table.{count_of, entry_at, table_lts, Formed}
use Rattle.transitions.proofs.Writes.{table-nth}
use Rattle.transitions.proofs.Filled.{transitions-count}
use Rattle.normal_form.specs.Written.{transitions_from}

module _ (t : List ℕ) (ok : Formed t) where
  -- from number i on: number i and those after it; after the last, none
  pub from_more : (i : ℕ) → i < count_of t → transitions_from t i ≡ entry_at t i ∷ transitions_from t (i + 1)
  unfolding nth
  from_more i l =
      let c = transitions-count t ok in
      let here = ap (λ (l : List Transition). nth l i) (sym ok.order) ∙ table-nth t (count_of t) i l in
      drop-cons (transitions (table_lts t)) i (record { source = 0; action = 0; target = 0 }) (omega arith)
      ∙ (λ z. here z ∷ drop (sym (add-one i) z) (transitions (table_lts t)))

  pub from-none : (i : ℕ) → count_of t ≤ i → transitions_from t i ≡ []
  from-none i l = let c = transitions-count t ok in drop_of_length-le (transitions (table_lts t)) {i = i} (omega arith)
