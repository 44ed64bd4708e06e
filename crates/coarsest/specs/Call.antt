-- The call coarsest: its reply and its two buffers (document 01, "Turns" and the table of refusals), and demand 3's clauses about them.
use Rattle.std.specs.Prelude.{ℕ, ◌*◌, ◌-◌, ◌≤◌, ◌<◌, ◌≡◌, not, ◌&&◌, List, [], ◌∷◌, ◌++◌, T, eqb, length, get_or, Ok, Err}
use Rattle.lts.specs.Bounded.{restrict}
use Rattle.lts.specs.System.{Rel, Lts}
use Rattle.lts.specs.Refinement.{block, pair_count, block_count, representatives as representatives_of, coarsest}
use Rattle.lts.specs.Demand.{IsCoarsest}
use Rattle.lts.specs.declared.Refusal.{Refusal}
use Rattle.lts.specs.declared.Refusal.TheVariants.{Buffer}
use Rattle.lts.specs.Rule.{Rule, ◌otherwise◌, Nothing, First, broken, checked, Reply, refused, given, Answer}
use Rattle.encoding.specs.Records.{header_of}
use Rattle.encoding.specs.Denotation.{lts_of}
use Rattle.rows.specs.Rows.{row_words}
use Rattle.relation.specs.Matrix.{relation_of, matrix_of, Matrix}
use Rattle.inputs.specs.Inputs.{input_rules}
use Rattle.coarsest.specs.declared.Counts.{Counts}

-- the reply of each answer: the turns made, the kept pairs and the blocks
unfoldable pub coarsest_reply : Answer Counts → Reply
coarsest_reply (Ok c) = given (c.steps ∷ c.pairs ∷ c.blocks ∷ [])
coarsest_reply (Err r) = refused r

-- the reply, and the two lent buffers afterwards
pub record CoarsestOutcome : Type 0 where
  pub reply : Reply
  pub grid : List ℕ
  pub representatives : List ℕ

-- the sheet first (1 to 6, 16, 17), then the start (8 to 10), then the two buffers' lengths (15)
unfoldable pub coarsest_rules : List ℕ → List ℕ → List ℕ → List ℕ → List Rule
coarsest_rules s start grid representatives =
    let n = (header_of s).states in
    input_rules s start ++ (eqb (length grid) (n * row_words n) && eqb (length representatives) n) otherwise Buffer ∷ []

-- the run of the refinement rule on a system, from a start, with a schedule: the turns, the kept pairs and the blocks; K as a grid; and
-- each state's block name
unfoldable pub refined : Lts → Rel → List ℕ → CoarsestOutcome
refined L start schedule =
    let r = coarsest L start schedule in
    let K = r.final.related in
    record { reply = given (r.steps ∷ pair_count L K ∷ block_count L K ∷ []); grid = matrix_of L.states K; representatives = representatives_of L K }

-- a refusal leaves both buffers as they are
unfoldable pub coarsest_call : List ℕ → List ℕ → List ℕ → List ℕ → List ℕ → CoarsestOutcome
coarsest_call s start schedule grid representatives =
    checked (coarsest_rules s start grid representatives)
    (λ r. record { reply = refused r; grid = grid; representatives = representatives })
    (refined (lts_of s) (relation_of (header_of s).states start) schedule)

-- Demand 3 about a reply, a relation K and block representatives that came back, of the system L from a start with a turn list.
pub record Found (L : Lts) (start : Rel) (schedule : List ℕ) (reply : Reply) (K : Rel) (representatives : List ℕ) : Type 0 where
  -- the turns are those of the written rule, and the pairs and blocks are those of K
  pub replied : reply ≡ given ((coarsest L start schedule).steps ∷ pair_count L K ∷ block_count L K ∷ [])
  pub bound : (coarsest L start schedule).steps ≤ L.states * (L.states - 1)
  pub relation : IsCoarsest L start K
  -- each state's name is in its block, and no lower state is
  pub long : length representatives ≡ L.states
  pub member : (p : ℕ) → p < L.states → T (block K p (get_or representatives p 0))
  pub lowest : (p q : ℕ) → p < L.states → q < get_or representatives p 0 → T (not (block K p q))

-- the relation on the sheet's states that a grid holds
abbrev pub grid_relation : List ℕ → List ℕ → Rel
grid_relation s grid = restrict (header_of s).states (relation_of (header_of s).states grid)

-- Every other turn list, and all buffers of these lengths, come to the same grid, representatives, pairs and blocks: only the turns are its own.
abbrev pub SameForAll : List ℕ → List ℕ → List ℕ → List ℕ → Type 0
SameForAll s start grid representatives =
    let L = lts_of s in
    let K = grid_relation s grid in
    (other grid' representatives' : List ℕ) → length grid' ≡ length grid → length representatives' ≡ length representatives
    → coarsest_call s start other grid' representatives' ≡ record {
      reply = given ((coarsest L (relation_of (header_of s).states start) other).steps ∷ pair_count L K ∷ block_count L K ∷ []);
      grid = grid;
      representatives = representatives;
    }

-- What is promised of the reply and of the buffers, which were grid₀ and representatives₀ and are grid and representatives.
pub record CoarsestPromise (s start schedule grid₀ representatives₀ : List ℕ) (reply : Reply) (grid representatives : List ℕ) : Type 0 where
  -- the refusal of the first broken rule, and both buffers as they were
  pub refuses : (r : Refusal) → broken (coarsest_rules s start grid₀ representatives₀) ≡ First r → (reply ≡ refused r) × (grid ≡ grid₀) × (representatives ≡ representatives₀)
  -- otherwise the grid is the coarsest simulation inside the start, with its counts and representatives, for every turn list
  pub matrix : broken (coarsest_rules s start grid₀ representatives₀) ≡ Nothing → Matrix (header_of s).states grid
  pub answers : broken (coarsest_rules s start grid₀ representatives₀) ≡ Nothing
      → Found (lts_of s) (relation_of (header_of s).states start) schedule reply (grid_relation s grid) representatives
  pub same : broken (coarsest_rules s start grid₀ representatives₀) ≡ Nothing → SameForAll s start grid representatives
