-- The call check plan: its reply (document 01, "Plans" and the table of refusals; the depth: document 02, L8), and what is promised of it.
-- A plan is a list of entries, however it is carried: as numbers, as structs or as bytes.
use Rattle.std.specs.Prelude.{ℕ, ◌+◌, ◌*◌, ◌-◌, ◌≤◌, ◌<◌, ◌≡◌, ◌↔◌, not, List, [], ◌∷◌, ◌++◌, T, Ok, Err}
use Rattle.lts.specs.declared.Entry.{Entry}
use Rattle.lts.specs.declared.Refusal.{Refusal}
use Rattle.lts.specs.declared.Refusal.TheVariants.{Unsound}
use Rattle.lts.specs.System.{Rel}
use Rattle.lts.specs.Refinement.{coarsest}
use Rattle.lts.specs.Rounds.{refuted_at}
use Rattle.lts.specs.Strategy.{accepted, last_of}
use Rattle.lts.specs.Depth.{depth_of, LastDepth}
use Rattle.lts.specs.Rule.{Rule, ◌otherwise◌, Nothing, First, broken, checked, Reply, refused, given, Answer}
use Rattle.encoding.specs.Records.{header_of}
use Rattle.encoding.specs.Denotation.{lts_of}
use Rattle.relation.specs.Matrix.{relation_of}
use Rattle.inputs.specs.Inputs.{input_rules}
use Rattle.strategy.specs.declared.Accepted.{Accepted}

-- the answer that accepts, with the last entry's pair and its depth
abbrev pub accepted_with : ℕ → ℕ → ℕ → Answer Accepted
accepted_with p q depth = Ok (record { p = p; q = q; depth = depth })

-- the reply of each answer: the last entry's pair and its depth
unfoldable pub check_reply : Answer Accepted → Reply
check_reply (Ok last) = given (last.p ∷ last.q ∷ last.depth ∷ [])
check_reply (Err r) = refused r

-- the start that the words hold, on the sheet's states; and the pairs that coarsest keeps from it, with this turn list
abbrev pub start_of : List ℕ → List ℕ → Rel
start_of s start = relation_of (header_of s).states start

abbrev pub kept_pairs : List ℕ → List ℕ → List ℕ → Rel
kept_pairs s start schedule = (coarsest (lts_of s) (start_of s start) schedule).final.related

-- the sheet and the start (1 to 10), then the entries (14)
unfoldable pub check_rules : List ℕ → List ℕ → List Entry → List Rule
check_rules s start entries = input_rules s start ++ accepted (lts_of s) (start_of s start) entries otherwise Unsound ∷ []

unfoldable pub check_call : List ℕ → List ℕ → List Entry → Reply
check_call s start entries =
    checked (check_rules s start entries) refused (given ((last_of entries).p ∷ (last_of entries).q ∷ depth_of (lts_of s) entries ∷ []))

-- The entries are a non-empty list of sound ones; the reply is their last pair and the last one's depth, and no turn list keeps that pair.
-- The pair falls at a round that is at most the depth, which is at most n * (n - 1) + 1.
pub record Accepts (s start : List ℕ) (entries : List Entry) (reply : Reply) : Type 0 where
  pub sound : T (accepted (lts_of s) (start_of s start) entries)
  pub depth : ℕ
  pub replied : reply ≡ given ((last_of entries).p ∷ (last_of entries).q ∷ depth ∷ [])
  pub measured : LastDepth (lts_of s) entries depth
  pub falls : (j : ℕ) × (j ≤ depth) × T (refuted_at (lts_of s) (start_of s start) j (last_of entries).p (last_of entries).q)
  pub most : depth ≤ (header_of s).states * ((header_of s).states - 1) + 1
  pub first : (last_of entries).p < (header_of s).states
  pub second : (last_of entries).q < (header_of s).states
  pub dropped : (schedule : List ℕ) → T (not (kept_pairs s start schedule (last_of entries).p (last_of entries).q))

-- What is promised of the reply.
pub record CheckPromise (s start : List ℕ) (entries : List Entry) (reply : Reply) : Type 0 where
  -- the refusal of the first broken rule
  pub refuses : (r : Refusal) → broken (check_rules s start entries) ≡ First r → reply ≡ refused r
  -- on a sheet and a start: 14 exactly for the lists that are empty or have an unsound entry
  pub unsound : broken (input_rules s start) ≡ Nothing → (reply.refusal ≡ 14) ↔ T (not (accepted (lts_of s) (start_of s start) entries))
  -- otherwise the last pair, which is dropped, and the last entry's depth
  pub answers : broken (check_rules s start entries) ≡ Nothing → Accepts s start entries reply
