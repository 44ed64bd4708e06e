-- The call compare and its ready form: the reply (document 01, "Hand play and comparison" and the table of refusals; document 02, L2 and L6),
-- and what is promised of it.
use Rattle.std.specs.Prelude.{ℕ, ◌*◌, ◌-◌, ◌≤◌, ◌≡◌, cond, List, [], ◌∷◌, T, Ok, Err}
use Rattle.lts.specs.System.{Rel, Lts, is_simulation, within, termination_preorder}
use Rattle.lts.specs.Refinement.{Run, coarsest}
use Rattle.lts.specs.Union.{comparison, simulated}
use Rattle.lts.specs.Ready.{ready_preorder, ReadySimulation}
use Rattle.lts.specs.Labels.{joined_labels, JoinedByLabel}
use Rattle.lts.specs.declared.Refusal.{Refusal}
use Rattle.lts.specs.Rule.{Nothing, First, broken, checked, Reply, refused, given, Decides, Answer}
use Rattle.encoding.specs.Labels.{labels_of}
use Rattle.encoding.specs.Denotation.{lts_of}
use Rattle.inputs.specs.Both.{matched_lts, joined_lts, both_rules}
use Rattle.comparison.specs.declared.Comparison.{Comparison}

-- the reply of each answer: yes or no, and the turns
unfoldable pub compare_reply : Answer Comparison → Reply
compare_reply (Ok c) = given (cond c.related 1 0 ∷ c.steps ∷ [])
compare_reply (Err r) = refused r

-- actions are matched by name; yes exactly if state 0 of the first is kept with state 0 of the second, and the turns. The run begins with a
-- start of the joined flow: the end start, or in the ready form the ready start
unfoldable pub compare_call : (Lts → Rel) → List ℕ → List ℕ → Reply
compare_call start first second =
    let L = lts_of first in
    let M = matched_lts first second in
    checked (both_rules first second) refused (given (cond (simulated start L M) 1 0 ∷ (comparison start L M).steps ∷ []))

-- the run on a joined flow: a start of it and an empty turn list
abbrev pub start_run : (Lts → Rel) → Lts → Run
start_run start U = coarsest U (start U) []

-- S is a simulation of the joined flow U inside its end start, and relates state 0 of the first sheet to state 0 of the second, state q of U
pub record Relates (U : Lts) (q : ℕ) (S : Rel) : Type 0 where
  pub simulation : T (is_simulation U S)
  pub inside : T (within U S (termination_preorder U))
  pub initial : T (S 0 q)

-- the same where S relates only states with the same set of actions
pub record ReadyRelates (U : Lts) (q : ℕ) (S : Rel) : Type 0 where
  pub ready : ReadySimulation U S
  pub initial : T (S 0 q)

-- What is promised of the reply, where the run begins with the start, and `Relating` says which simulation makes it a yes.
pub record ComparePromise (start : Lts → Rel) (Relating : Lts → ℕ → Rel → Type 0) (first second : List ℕ) (reply : Reply) : Type 0 where
  -- the refusal of the first broken rule
  pub refuses : (r : Refusal) → broken (both_rules first second) ≡ First r → reply ≡ refused r
  -- the flow that the answer is about is the joined flow by name
  pub joined : broken (both_rules first second) ≡ Nothing
      → JoinedByLabel (labels_of first) (lts_of first) (labels_of second) (lts_of second) (joined_labels (labels_of first) (labels_of second)) (joined_lts first second)
  -- yes exactly if there is such a simulation of it, with the turns of its run, at most n * (n - 1) of its n states
  pub answers : broken (both_rules first second) ≡ Nothing
      → let U = joined_lts first second in Decides reply ((S : Rel) × Relating U (lts_of first).states S) ((start_run start U).steps ∷ [])
  pub bound : broken (both_rules first second) ≡ Nothing → let U = joined_lts first second in (start_run start U).steps ≤ U.states * (U.states - 1)

-- What is promised of the ready form's reply.
pub record CompareReadyPromise (first second : List ℕ) (reply : Reply) : Type 0 where
  pub compared : ComparePromise ready_preorder ReadyRelates first second reply
  -- a ready yes is a yes of the older form
  pub older : (turns : ℕ) → reply ≡ given (1 ∷ turns ∷ []) → (others : ℕ) × (compare_call termination_preorder first second ≡ given (1 ∷ others ∷ []))
