-- The parts of one action of a refinement step, by rows. Relations are on the numbers below 256.
use Rattle.std.specs.Prelude.{ℕ, ◌<◌, ◌≡◌, true, false, cond, not, ◌&&◌, List}
use Rattle.lts.specs.Bounded.{any_below}
use Rattle.lts.specs.System.{Set, Rel}
use Rattle.rows.specs.Rows.{in_row, row_of}
use Rattle.sets.specs.Sets.{set_at, sets_of}

-- the split of K and of its blocks P by Rem, and the pairs that go over the new blocks, where a member of the row's block hits
unfoldable pub split_related : Set → Rel → Rel → Rel
split_related Rem K P g h = K g h && not (P g h && not (Rem g) && Rem h)

unfoldable pub split_blocks : Set → Rel → Rel
split_blocks Rem P g h = P g h && cond (Rem g) (Rem h) (not (Rem h))

unfoldable pub prune_related : ℕ → Set → Set → Rel → Rel → Rel
prune_related n Rem Hits K P g h = K g h && not (any_below n (λ x. P g x && Hits x) && Rem h)

-- one action, by rows
unfoldable pub refined_related : ℕ → Set → Set → Rel → Rel → Rel
refined_related n Rem Hits K P = prune_related n Rem Hits (split_related Rem K P) (split_blocks Rem P)

-- K without the pairs of `rows` and Rem
abbrev pub without : Set → Set → Rel → Rel
without rows Rem K g h = K g h && not (rows g && Rem h)

-- a block that the state of a row outside `rows` names lies in Rem, or outside
abbrev pub Unsplit : Rel → Set → Set → Type 0
Unsplit P Rem rows = (g h : ℕ) → g < 256 → h < 256 → rows g ≡ false → P g h ≡ true → Rem h ≡ Rem g

-- `rows` are the states whose block has a member of S
abbrev pub Meets : Rel → Set → Set → Type 0
Meets P S rows = (g : ℕ) → g < 256 → rows g ≡ any_below 256 (λ x. P g x && S x)

-- What pruning over the blocks with a hit has made of the list of K: `hit` are those blocks' states, `changed` the rows that change.
pub record Pruned (Rem Hits : Set) (related blocks related' changed : List ℕ) : Type 0 where
  pub hit : Set
  pub meets : Meets (set_at blocks) Hits hit
  pub pruned : related' ≡ sets_of 256 (without hit Rem (set_at related))
  pub reported : changed ≡ row_of 4 (λ g. hit g && any_below 256 (λ h. set_at related g h && Rem h))

-- What one action has made of the lists of K and of its blocks; a row outside `touched` is as it was.
pub record Acted (Rem Hits : Set) (related blocks related' blocks' touched : List ℕ) : Type 0 where
  pub related-is : related' ≡ sets_of 256 (refined_related 256 Rem Hits (set_at related) (set_at blocks))
  pub blocks_is : blocks' ≡ sets_of 256 (split_blocks Rem (set_at blocks))
  pub related_same : (g h : ℕ) → g < 256 → h < 256 → in_row touched g ≡ false → set_at related' g h ≡ set_at related g h
  pub blocks-same : (g h : ℕ) → g < 256 → h < 256 → in_row touched g ≡ false → set_at blocks' g h ≡ set_at blocks g h
