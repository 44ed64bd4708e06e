-- A list of sets as the blocks of a relation: set g is the block of g. Relations are on the numbers below 256.
use Rattle.std.specs.Prelude.{ℕ, ◌<◌, ◌≡◌, true, false}
use Rattle.lts.specs.System.{Set, Rel}

-- P is the relation of blocks (symmetric and transitive), and a state outside `shared` is alone in its block
pub record Parted (P : Rel) (shared : Set) : Type 0 where
  pub sym : (g h : ℕ) → g < 256 → h < 256 → P g h ≡ true → P h g ≡ true
  pub trans : (g h k : ℕ) → g < 256 → h < 256 → k < 256 → P g h ≡ true → P h k ≡ true → P g k ≡ true
  pub single : (g h : ℕ) → g < 256 → h < 256 → shared g ≡ false → P g h ≡ true → h ≡ g

-- each member of S is in its own block
abbrev pub Owned : Rel → Set → Type 0
Owned P S = (g : ℕ) → g < 256 → S g ≡ true → P g g ≡ true
