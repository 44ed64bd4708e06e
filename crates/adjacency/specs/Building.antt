-- How the index of a table is built, transition by transition.
use Rattle.std.specs.Prelude.{ℕ, ◌+◌, ◌-◌, ◌*◌, ◌≤◌, ◌<◌, ◌≡◌, cond, ◌||◌, List, ◌⊎◌, eqb, length, get_or, set}
use Rattle.lts.specs.Bounded.{any_below}
use Rattle.lts.specs.System.{Set}
use Rattle.rows.specs.Rows.{row_of}
use Rattle.transitions.specs.Table.{actions_of, source_at, action_at, target_at}

-- place x has the row `fresh` if it had none
unfoldable pub claimed : List ℕ → ℕ → ℕ → List ℕ
claimed places x fresh = cond (eqb (get_or places x 0) 0) (set places x fresh) places

-- the places of the targets of p by a, and of the sources of q by a
abbrev pub targets_place : ℕ → ℕ → ℕ
targets_place a p = 512 * a + p

abbrev pub sources_place : ℕ → ℕ → ℕ
sources_place a q = 512 * a + 256 + q

-- the members that the transition from p by a to t puts in, where the rows of its targets and its sources are numbers u and v
unfoldable pub hits : ℕ → ℕ → ℕ → ℕ → ℕ → Set
hits u v p a t y =
    eqb y (64 * t + (a - 1))
    || (eqb y (256 * (64 + 2 * a) + t) || (eqb y (256 * (63 + 2 * a) + p) || (eqb y (256 * (64 + v) + p) || eqb y (256 * (64 + u) + t))))

abbrev pub hit : List ℕ → ℕ → ℕ → ℕ → Set
hit places p a t = hits (get_or places (targets_place a p) 0) (get_or places (sources_place a t) 0) p a t

-- the places with those of the transition from p by a to t
abbrev pub placed : List ℕ → ℕ → ℕ → ℕ → ℕ → List ℕ
placed places fresh p a t = claimed (claimed places (targets_place a p) fresh) (sources_place a t) (fresh + 1)

-- each place has no row, or one from `low` on and below `high`, and no two places have the same
pub record Placing (low high : ℕ) (places : List ℕ) : Type 0 where
  pub range : (x : ℕ) → (get_or places x 0 ≡ 0) ⊎ ((low ≤ get_or places x 0) × (get_or places x 0 < high))
  pub only : (x y : ℕ) → get_or places x 0 ≡ get_or places y 0 → 1 ≤ get_or places x 0 → x ≡ y

-- what transition number j of t puts in
abbrev pub hit_at : List ℕ → List ℕ → ℕ → Set
hit_at t places j = hit places (source_at t j) (action_at t j) (target_at t j)

-- the index of the first i transitions
pub record Building (t : List ℕ) (i : ℕ) (places rows : List ℕ) : Type 0 where
  pub placing : Placing (2 * actions_of t + 1) (2 * actions_of t + 1 + 2 * i) places
  pub leaving : (j : ℕ) → j < i → 1 ≤ get_or places (targets_place (action_at t j) (source_at t j)) 0
  pub entering : (j : ℕ) → j < i → 1 ≤ get_or places (sources_place (action_at t j) (target_at t j)) 0
  pub members : rows ≡ row_of (length rows) (λ y. any_below i (λ j. hit_at t places j y))
