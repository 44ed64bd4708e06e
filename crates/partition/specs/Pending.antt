-- Blocks and pending blocks, by the lists of sets of K, V and the blocks. Relations are on the numbers below 256.
use Rattle.std.specs.Prelude.{ℕ, ◌<◌, ◌≡◌, true, ◌&&◌, List, eqb, length}
use Rattle.std.specs.Bool.{xor}
use Rattle.lts.specs.Bounded.{any_below, lowest}
use Rattle.lts.specs.System.{Set, Rel}
use Rattle.rows.specs.Rows.{in_row}

-- p is the lowest state of its block in P, and its rows of W (V) and K differ
unfoldable pub pending_in : ℕ → Rel → Rel → Rel → Set
pending_in n K W P p = eqb (lowest n (P p)) p && any_below n (λ q. xor (W p q) (K p q))

-- a member of S is alone in its block
abbrev pub Singles : Rel → Set → Type 0
Singles P S = (g h : ℕ) → g < 256 → h < 256 → S g ≡ true → P g h ≡ true → h ≡ g

pub record Reflexive (n : ℕ) (R : Rel) : Type 0 where
  pub loop : (p : ℕ) → p < n → R p p ≡ true

-- K is a preorder on the states below n, and has no other pair
pub record Ordered (n : ℕ) (K : Rel) : Type 0 where
  pub loop : (p : ℕ) → p < n → K p p ≡ true
  pub trans : (p q r : ℕ) → p < 256 → q < 256 → r < 256 → K p q ≡ true → K q r ≡ true → K p r ≡ true
  pub inside : (p q : ℕ) → p < 256 → q < 256 → K p q ≡ true → (p < n) × (q < n)

-- the set of written rows after p: it has p, and what it had
pub record Grown (p : ℕ) (written written' : List ℕ) : Type 0 where
  pub long : length written' ≡ 4
  pub added : in_row written' p ≡ true
  pub kept : (g : ℕ) → g < 256 → in_row written g ≡ true → in_row written' g ≡ true
