-- The calls end start, ready start and test simulation: what each replies and leaves in its buffer (document 01, "Grids" and the table of
-- refusals; document 02, L6), and what is promised of it.
use Rattle.std.specs.Prelude.{ℕ, ◌*◌, ◌<◌, ◌≡◌, ◌↔◌, Bool, cond, ◌&&◌, List, [], ◌∷◌, ◌++◌, T, eqb, length, Ok, Err}
use Rattle.lts.specs.Bounded.{restrict}
use Rattle.lts.specs.System.{Rel, Lts, is_simulation, within, Simulation}
use Rattle.lts.specs.Refinement.{coarsest}
use Rattle.lts.specs.Ready.{SameActions, ReadySimulation}
use Rattle.lts.specs.declared.Refusal.{Refusal}
use Rattle.lts.specs.declared.Refusal.TheVariants.{Grid, Buffer}
use Rattle.lts.specs.Rule.{Rule, ◌otherwise◌, Nothing, First, broken, checked, Reply, refused, given, Decides, Answer}
use Rattle.encoding.specs.Records.{header_of}
use Rattle.encoding.specs.Encoding.{sheet_rules}
use Rattle.encoding.specs.Denotation.{lts_of}
use Rattle.rows.specs.Rows.{row_words}
use Rattle.relation.specs.Matrix.{relation_of, matrix_of}
use Rattle.relation.specs.Check.{is_matrix, start_rules}
use Rattle.inputs.specs.Inputs.{input_rules}

-- ## End start and ready start
-- the reply, and the lent buffer afterwards
pub record WriteStartOutcome : Type 0 where
  pub reply : Reply
  pub grid : List ℕ

-- the sheet first (1 to 6, 16, 17), then the buffer's length (15)
unfoldable pub write_start_rules : List ℕ → List ℕ → List Rule
write_start_rules s grid = let n = (header_of s).states in sheet_rules s ++ eqb (length grid) (n * row_words n) otherwise Buffer ∷ []

-- one start of the sheet's flow is written; a refusal leaves the buffer as it is
unfoldable pub write_start_call : (Lts → Rel) → List ℕ → List ℕ → WriteStartOutcome
write_start_call start s grid =
    checked (write_start_rules s grid)
    (λ r. record { reply = refused r; grid = grid })
    (record { reply = given []; grid = matrix_of (header_of s).states (start (lts_of s)) })

-- the grid is a start of the sheet, and holds (p, q) unless p has the end mark and q has not
pub record EndStart (s grid : List ℕ) : Type 0 where
  pub start : broken (start_rules (header_of s).states grid) ≡ Nothing
  pub holds : (p q : ℕ) → p < (header_of s).states → q < (header_of s).states
      → T (relation_of (header_of s).states grid p q) ↔ (T ((lts_of s).terminating p) → T ((lts_of s).terminating q))

-- the grid is a start of the sheet, and holds (p, q) exactly if the end start does and the actions of p's moves are exactly those of q's
pub record ReadyStart (s grid : List ℕ) : Type 0 where
  pub start : broken (start_rules (header_of s).states grid) ≡ Nothing
  pub holds : (p q : ℕ) → p < (header_of s).states → q < (header_of s).states
      → T (relation_of (header_of s).states grid p q) ↔ ((T ((lts_of s).terminating p) → T ((lts_of s).terminating q)) × SameActions (lts_of s) p q)
  -- coarsest keeps a pair under it exactly when some simulation inside the end start that relates only states with the same set of actions
  -- holds that pair
  pub kept : (schedule : List ℕ) (p q : ℕ) → p < (header_of s).states → q < (header_of s).states
      → T ((coarsest (lts_of s) (relation_of (header_of s).states grid) schedule).final.related p q)
      ↔ ((S : Rel) × ReadySimulation (lts_of s) S × T (S p q))

-- What is promised of the reply and of the buffer that was grid₀ and is grid, where `Meant` is what the start is to be.
pub record WriteStartPromise (Meant : List ℕ → List ℕ → Type 0) (s grid₀ : List ℕ) (reply : Reply) (grid : List ℕ) : Type 0 where
  -- the refusal of the first broken rule, and the buffer as it was
  pub refuses : (r : Refusal) → broken (write_start_rules s grid₀) ≡ First r → (reply ≡ refused r) × (grid ≡ grid₀)
  -- otherwise the buffer holds the start
  pub answers : broken (write_start_rules s grid₀) ≡ Nothing → (reply ≡ given []) × Meant s grid

-- ## Test simulation
-- the reply of each answer: yes or no
unfoldable pub simulation_reply : Answer Bool → Reply
simulation_reply (Ok b) = given (cond b 1 0 ∷ [])
simulation_reply (Err r) = refused r

-- the sheet (1 to 6, 16, 17), then the start (8 to 10), then the claim (8)
unfoldable pub simulation_rules : List ℕ → List ℕ → List ℕ → List Rule
simulation_rules s start claim = input_rules s start ++ is_matrix (header_of s).states claim otherwise Grid ∷ []

-- the claim is a simulation and inside the start
unfoldable pub is_inside : Lts → Rel → Rel → Bool
is_inside L start claim = is_simulation L claim && within L claim start

unfoldable pub simulation_call : List ℕ → List ℕ → List ℕ → Reply
simulation_call s start claim =
    let n = (header_of s).states in
    checked (simulation_rules s start claim) refused (given (cond (is_inside (lts_of s) (relation_of n start) (relation_of n claim)) 1 0 ∷ []))

-- What is promised of the reply.
pub record SimulationPromise (s start claim : List ℕ) (reply : Reply) : Type 0 where
  -- the refusal of the first broken rule
  pub refuses : (r : Refusal) → broken (simulation_rules s start claim) ≡ First r → reply ≡ refused r
  -- otherwise yes exactly if the claim is a simulation inside the start: each move of a pair has an answer
  pub answers : broken (simulation_rules s start claim) ≡ Nothing
      → Decides reply
      (Simulation (lts_of s) (relation_of (header_of s).states start)
      (λ p q. T (restrict (header_of s).states (relation_of (header_of s).states claim) p q))) []
