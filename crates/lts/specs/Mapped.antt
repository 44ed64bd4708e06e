-- The image of a system (document 01, "The sheet"): its states and actions at other numbers; several states may go to one.
use Rattle.std.specs.Prelude.{ℕ, ◌≤◌, ◌<◌, ◌&&◌, eqb}
use Rattle.lts.specs.System.{Lts, any_state, any_action, into}

-- The image of L under f on states and g on actions, with n states and m actions: its transitions are f p, g b, f t for the transitions
-- p, b, t of L, and its terminating states are f p for the terminating states p of L.
unfoldable pub mapped : ℕ → ℕ → (ℕ → ℕ) → (ℕ → ℕ) → Lts → Lts
mapped n m f g L = record {
  states = n;
  actions = m;
  terminating = λ i. any_state L (λ p. eqb (f p) i && L.terminating p);
  transition = λ i a j. any_state L (λ p. eqb (f p) i && any_action L (λ b. eqb (g b) a && into L b (λ t. eqb (f t) j) p));
}

-- f takes the states of L to states below n, and g its actions to 1 to m
pub record Sends (n m : ℕ) (f g : ℕ → ℕ) (L : Lts) : Type 0 where
  pub state : (p : ℕ) → p < L.states → f p < n
  pub action : (a : ℕ) → 1 ≤ a → a ≤ L.actions → (1 ≤ g a) × (g a ≤ m)
