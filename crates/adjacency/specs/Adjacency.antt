-- The transitions of a table as rows of sets, by action and state.
use Rattle.std.specs.Prelude.{ℕ, ◌+◌, ◌-◌, ◌*◌, ◌≤◌, ◌<◌, ◌≡◌, true, false, ◌&&◌, List, length, get_or}
use Rattle.lts.specs.Bounded.{any_below}
use Rattle.lts.specs.System.{Set, into}
use Rattle.rows.specs.Rows.{bit, word_of}
use Rattle.sets.specs.Sets.{set_at}
use Rattle.transitions.specs.Table.{actions_of, table_lts, Formed}

-- What `places` and `rows` hold of the table t. Row 64 + places[512 * a + p] has the targets of the transitions from p by a, row
-- 64 + places[512 * a + 256 + q] the sources of those into q by a; row 64 is empty. Row 63 + 2 * a has the states with a transition by a, row 64 + 2 * a
-- those with one into them. Bit a - 1 of word q says whether a transition by a goes into q.
pub record Index (t places rows : List ℕ) : Type 0 where
  pub formed : Formed t
  pub long : 512 * (actions_of t + 1) ≤ length places
  pub wide : (65 + 2 * actions_of t) * 4 ≤ length rows
  pub room : (x : ℕ) → (64 + get_or places x 0) * 4 + 4 ≤ length rows
  pub targets : (a p q : ℕ) → 1 ≤ a → a ≤ actions_of t → p < 256 → q < 256 → set_at rows (64 + get_or places (512 * a + p) 0) q ≡ (table_lts t).transition p a q
  pub sources : (a p q : ℕ) → 1 ≤ a → a ≤ actions_of t → p < 256 → q < 256 → set_at rows (64 + get_or places (512 * a + 256 + q) 0) p ≡ (table_lts t).transition p a q
  pub enabled : (a p : ℕ) → 1 ≤ a → a ≤ actions_of t → p < 256 → set_at rows (63 + 2 * a) p ≡ into (table_lts t) a (λ q. true) p
  pub entered : (a q : ℕ) → 1 ≤ a → a ≤ actions_of t → q < 256 → set_at rows (64 + 2 * a) q ≡ any_below 256 (λ p. (table_lts t).transition p a q)
  pub actions : (a q : ℕ) → 1 ≤ a → a ≤ actions_of t → q < 256 → bit (get_or rows q 0) (a - 1) ≡ any_below 256 (λ p. (table_lts t).transition p a q)
  pub no_more : (j x : ℕ) → x < 256 → actions_of t ≤ j → j < 64 → bit (get_or rows x 0) j ≡ false

-- the actions with a transition into a state of S, by the words of the states: bit a - 1 for action a
abbrev pub actions_entering : List ℕ → Set → ℕ
actions_entering rows S = word_of 64 (λ j. any_below 256 (λ q. S q && bit (get_or rows q 0) j))
