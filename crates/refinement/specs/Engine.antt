-- What the engine's own functions say of each other: relations held by lists of 256 sets.
use Rattle.std.specs.Prelude.{ℕ, zero, suc, ◌^◌, ◌≤◌, ◌<◌, ◌⊎◌, ◌≡◌, Bool, true, false, cond, not, ◌&&◌, ◌||◌, List, T, ltb, get_or}
use Rattle.lts.specs.Bounded.{restrict, any_below}
use Rattle.lts.specs.System.{Set, Rel, Lts, into}
use Rattle.lts.specs.Refinement.{Relations, block, remove, refine, each_action, step_of}
use Rattle.lts.proofs.Refine.{Blocks}
use Rattle.lts.proofs.Run.{Reached}
use Rattle.transitions.specs.Table.{states_of, actions_of, table_lts}
use Rattle.rows.specs.Rows.{bit, in_row, row_of}
use Rattle.relation.specs.Matrix.{relation_of, Matrix}
use Rattle.sets.specs.Sets.{set_at, sets_of}
use Rattle.sets.specs.Parts.{Parted, Owned}
use Rattle.adjacency.specs.Adjacency.{Index, actions_entering}
use Rattle.splitting.specs.Split.{split_blocks, refined_related}

-- the relations that the lists of K and V hold
unfoldable pub held_by : ℕ → List ℕ → Rel
held_by n g = restrict n (set_at g)

unfoldable pub relations_of : ℕ → List ℕ → List ℕ → Relations
relations_of n related viewed = record { related = held_by n related; viewed = held_by n viewed }

-- the step of b's block, in the system of the table t, on what the lists hold
abbrev pub stepped : List ℕ → ℕ → List ℕ → List ℕ → Relations
stepped t b related viewed = step_of (table_lts t) b (relations_of (states_of t) related viewed)

-- K and its blocks after the actions 1 to j by rows, from Rem and the hits of each action
pub record Refined : Type 0 where
  pub related : Rel
  pub blocks : Rel

unfoldable pub actions_to : (ℕ → Set) → (ℕ → Set) → ℕ → Refined → Refined
actions_to Rem Hits zero r = r
actions_to Rem Hits (suc j) r =
    let s = actions_to Rem Hits j r in
    record { related = refined_related 256 (Rem (suc j)) (Hits (suc j)) s.related s.blocks; blocks = split_blocks (Rem (suc j)) s.blocks }

abbrev pub acted : (ℕ → Set) → (ℕ → Set) → ℕ → List ℕ → List ℕ → Refined
acted Rem Hits j related blocks = actions_to Rem Hits j (record { related = set_at related; blocks = set_at blocks })

-- Rem and the hits of each action in the system of the table t
abbrev pub removed_by : List ℕ → Set → Set → ℕ → Set
removed_by t Y N a = remove (table_lts t) a Y N

abbrev pub hits_by : List ℕ → Set → ℕ → Set
hits_by t B a = into (table_lts t) a B

-- an action changes nothing: Rem is empty, or there is no hit and Rem splits no block
abbrev pub Idle : Set → Set → Rel → Type 0
Idle Rem Hits P = ((q : ℕ) → q < 256 → Rem q ≡ false)
    ⊎ (((q : ℕ) → q < 256 → Hits q ≡ false) × ((g h : ℕ) → g < 256 → h < 256 → P g h ≡ true → Rem h ≡ Rem g))

-- What is fixed for a step: the index of the table, and B, Y and N. `whole` says that Y and N have every state. `actions` has bit a - 1 for each action a
-- that may change something, where P are the blocks at the step's beginning.
pub record Fixed (t places rows : List ℕ) (actions : ℕ) (B Y N : Set) (P : Rel) (whole : Bool) : Type 0 where
  pub index : Index t places rows
  pub small : actions < 2 ^ 64
  pub covers : whole ≡ true → (q : ℕ) → q < states_of t → Y q || N q ≡ true
  pub no_more : (j : ℕ) → actions_of t ≤ j → j < 64 → bit actions j ≡ false
  pub idle : (j : ℕ) → j < actions_of t → bit actions j ≡ false → Idle (removed_by t Y N (suc j)) (hits_by t B (suc j)) P

-- what a step fixes at its beginning: the rows of B, Y and N, the actions to go through, and whether V has every state
pub record Turning (rows all shared : List ℕ) (b : ℕ) (related viewed blocks members inside outside : List ℕ) (actions : ℕ) (whole : Bool) : Type 0 where
  pub members-is : members ≡ row_of 4 (set_at blocks b)
  pub inside_is : inside ≡ row_of 4 (set_at related b)
  pub outside-is : outside ≡ row_of 4 (λ q. set_at viewed b q && not (set_at related b q))
  pub whole_is : whole ≡ true → (q : ℕ) → q < 256 → set_at viewed b q ≡ in_row all q
  pub actions-is : actions ≡ cond (any_below 256 (in_row shared)) (actions_entering rows (in_row (cond whole inside outside))) (get_or rows b 0)

-- each state of the table is in its own block
abbrev pub Owning : List ℕ → List ℕ → Type 0
Owning t blocks = (g : ℕ) → g < states_of t → set_at blocks g g ≡ true

-- K and its blocks have, at each state outside `touched`, the rows that they had before
pub record Untouched (related blocks related' blocks' touched : List ℕ) : Type 0 where
  pub related_same : (g h : ℕ) → g < 256 → h < 256 → in_row touched g ≡ false → set_at related' g h ≡ set_at related g h
  pub blocks-same : (g h : ℕ) → g < 256 → h < 256 → in_row touched g ≡ false → set_at blocks' g h ≡ set_at blocks g h

-- what all actions of a step have made of K and its blocks
pub record Done (t : List ℕ) (B Y N : Set) (related blocks related' blocks' touched : List ℕ) : Type 0 where
  pub related-is : related' ≡ sets_of 256 (acted (removed_by t Y N) (hits_by t B) (actions_of t) related blocks).related
  pub blocks_is : blocks' ≡ sets_of 256 (acted (removed_by t Y N) (hits_by t B) (actions_of t) related blocks).blocks
  pub untouched : Untouched related blocks related' blocks' touched

-- what the step of b's block begins with: the lists of K and V, the blocks of K, and a set with each state that shares a block
pub record Before (n b : ℕ) (related viewed blocks shared : List ℕ) : Type 0 where
  pub low : b < n
  pub related-is : related ≡ sets_of 256 (held_by n related)
  pub viewed-is : viewed ≡ sets_of 256 (held_by n viewed)
  pub blocks_is : blocks ≡ sets_of 256 (block (held_by n related))
  pub parts : Parted (set_at blocks) (in_row shared)

-- K has blocks after each action of the step of p's block, and the states of a block at its beginning go into V of p alike
pub record Steady (L : Lts) (p : ℕ) (s : Relations) : Type 0 where
  pub spread : (a g h : ℕ) → T (block s.related g h) → into L a (s.viewed p) h ≡ into L a (s.viewed p) g
  pub during : (j : ℕ) → Blocks (λ g. g < L.states) (λ g h. T (each_action j (refine L (block s.related p) (s.related p) (λ q. s.viewed p q && not (s.related p q))) s.related g h))

-- what a step has, for the table t: its index, the set of all states, and what it begins with
pub record Stepping (t places rows all : List ℕ) (b : ℕ) (related viewed blocks shared : List ℕ) : Type 0 where
  pub index : Index t places rows
  pub all-is : all ≡ row_of 4 (λ q. ltb q (states_of t))
  pub begun : Before (states_of t) b related viewed blocks shared
  pub steady : Steady (table_lts t) b (relations_of (states_of t) related viewed)

-- what the step of b's block, in the system of the table t, has made of the lists, and the states at which a row can have changed
pub record Made (t : List ℕ) (b : ℕ) (shared related viewed blocks related' viewed' blocks' touched : List ℕ) : Type 0 where
  pub related-is : related' ≡ sets_of 256 (stepped t b related viewed).related
  pub viewed-is : viewed' ≡ sets_of 256 (stepped t b related viewed).viewed
  pub blocks_is : blocks' ≡ sets_of 256 (block (stepped t b related viewed).related)
  pub untouched : Untouched related blocks related' blocks' touched
  pub viewed-same : (g h : ℕ) → g < 256 → h < 256 → in_row touched g ≡ false → set_at viewed' g h ≡ set_at viewed g h
  pub parts : Parted (set_at blocks') (in_row shared)
  pub owned : Owned (set_at blocks') (in_row touched)

-- Where the engine's loop stands after some steps: the lists of K, V and the blocks of K hold what the run has reached.
pub record State (L : Lts) (start : Rel) (schedule : List ℕ) (steps : ℕ) (related viewed blocks : List ℕ) : Type 0 where
  pub related-is : related ≡ sets_of 256 (held_by L.states related)
  pub viewed-is : viewed ≡ sets_of 256 (held_by L.states viewed)
  pub blocks_is : blocks ≡ sets_of 256 (block (held_by L.states related))
  pub reached : Reached L start schedule steps (relations_of L.states related viewed)

-- a matrix that is a preorder
pub record Start (n : ℕ) (g : List ℕ) : Type 0 where
  pub matrix : Matrix n g
  pub loop : (p : ℕ) → p < n → T (relation_of n g p p)
  pub chain : (p q r : ℕ) → p < n → q < n → r < n → T (relation_of n g p q) → T (relation_of n g q r) → T (relation_of n g p r)
