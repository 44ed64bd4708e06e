-- What the functions that follow chains say of each other: marks that are set along a list of places, marks of the records on chains, and
-- counts of the indices that name a record.
use Rattle.std.specs.Prelude.{ℕ, ◌+◌, ◌<◌, ◌≡◌, ◌⊎◌, Bool, true, not, ◌&&◌, List, [], ◌∷◌, length, get_or, set, eqb}
use Rattle.encoding.specs.declared.Header.{Header}
use Rattle.encoding.specs.Records.{transition_record}
use Rattle.encoding.specs.Encoding.{occurrences}
use Rattle.encoding.specs.Read.{OnChain}

-- whether no place of the list bears the mark v in m, when each is marked in turn
unfoldable pub fresh : ℕ → List ℕ → List ℕ → Bool
fresh v m [] = true
fresh v m (x ∷ l) = not (eqb (get_or m x 0) v) && fresh v (set m x v) l

-- m with the mark v at each place of the list
unfoldable pub marked : ℕ → List ℕ → List ℕ → List ℕ
marked v m [] = m
marked v m (x ∷ l) = marked v (set m x v) l

-- with each marked record the one that its next index names is marked
pub record Closed (s : List ℕ) (h : Header) (m : List ℕ) : Type 0 where
  pub long : length m ≡ 1025
  pub next : (j : ℕ) → get_or m j 0 ≡ 1 → ((transition_record s h j).next ≡ 0) ⊎ (get_or m (transition_record s h j).next 0 ≡ 1)

-- the records on the chains of the states below p are marked, and no others
pub record ReachedBelow (s : List ℕ) (h : Header) (p : ℕ) (m : List ℕ) : Type 0 where
  pub closed : Closed s h m
  pub marks : (q j : ℕ) → q < p → OnChain s h q j → get_or m j 0 ≡ 1
  pub only : (j : ℕ) → get_or m j 0 ≡ 1 → (q : ℕ) × (q < p) × OnChain s h q j

-- m' counts the numbers of the list on top of m
pub record Counted (l m m' : List ℕ) : Type 0 where
  pub long : length m' ≡ length m
  pub at : (j : ℕ) → get_or m' j 0 ≡ get_or m j 0 + occurrences j l
