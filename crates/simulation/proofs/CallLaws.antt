-- The system of an encoding is its table's; and what the calls answer, by what reading and testing answer.
use mathlib.Core.Path.{◌≡◌, refl, sym, ap₂, ◌∙◌}
use mathlib.Core.Logic.{◌↔◌}
use mathlib.Core.Bool.{Bool, true, false, not}
use mathlib.Core.List.{List, [], ◌∷◌}
use Prim.Native.Nat.{ℕ, ◌*◌}
use lib.Dec.{T, eqb}
use lib.ListN.{length}
use borrow.Author.Tests.{eq-eqb, ne_eqb}
use Rattle.lts.specs.System.{Rel, Lts, within, answered, is_simulation}
use Rattle.lts.specs.declared.Refusal.{Refusal}
use Rattle.lts.specs.declared.Refusal.TheVariants.{Grid, Buffer}
use Rattle.lts.specs.Rule.{◌otherwise◌, First, broken, checked_reply, Answer}
use Rattle.lts.proofs.Bounded.{and-iff, test-ext}
use Rattle.lts.proofs.System.{within-iff}
use Rattle.lts.proofs.Rule.{stop, pass, done, first_part, second-part, refuses, passes, passed_on}
use Rattle.encoding.specs.declared.Header.{Header}
use Rattle.encoding.specs.Encoding.{sheet_rules, read_encoding}
use Rattle.encoding.specs.Checked.{ReadableAs}
use Rattle.encoding.specs.Denotation.{lts_of}
use Rattle.encoding.proofs.Reader.{sheet-broken, sheet-kept}
use Rattle.rows.specs.Rows.{row_words}
use Rattle.transitions.specs.Table.{states_of, table_lts, Holds}
use Rattle.transitions.proofs.Filled.{sheet-states}
use Rattle.relation.specs.Matrix.{relation_of, matrix_of}
use Rattle.relation.specs.Check.{is_matrix}
use Rattle.conditions.specs.Conditions.{both_conditions}
use Rattle.inputs.specs.Inputs.{input_rules, read_inputs}
use Rattle.inputs.proofs.Laws.{input-broken, input-kept}
use Rattle.simulation.specs.Calls.{write_start_rules, write_start_call, is_inside, simulation_reply, simulation_rules, simulation_call, SimulationPromise}
use Rattle.simulation.proofs.Promise.{simulation-promised}
use Rattle.std.specs.Prelude.{Ok, Err, IsErrAnd}

-- ## A claim whose pairs meet the conditions is a simulation inside the start
pairs-inside : (L : Lts) (start R : Rel) → within L R (both_conditions L start R) ≡ is_inside L start R
unfolding is_inside is_simulation both_conditions
pairs-inside L start R = test-ext _ _
    (λ e. both.1 (
      (within-iff L R (answered L R)).1 (λ p q lp lq r. ((and-iff (start p q) (answered L R p q)).0 ((within-iff L R (both_conditions L start R)).0 e p q lp lq r)).1),
      (within-iff L R start).1 (λ p q lp lq r. ((and-iff (start p q) (answered L R p q)).0 ((within-iff L R (both_conditions L start R)).0 e p q lp lq r)).0),
    ))
    (λ e. (within-iff L R (both_conditions L start R)).1 (λ p q lp lq r. (and-iff (start p q) (answered L R p q)).1 (
      (within-iff L R start).0 (both.0 e).1 p q lp lq r,
      (within-iff L R (answered L R)).0 (both.0 e).0 p q lp lq r,
    )))
  where
    both : T (is_inside L start R) ↔ (T (is_simulation L R) × T (within L R start))
    both = and-iff (is_simulation L R) (within L R start)

-- ## The system of an encoding is its table's
module _ (s : List ℕ) (h : Header) (g : ReadableAs s h) {t : List ℕ} (k : Holds (lts_of s) t) where
  pub start-table : (start : Lts → Rel) {grid : List ℕ} → grid ≡ matrix_of (states_of t) (start (table_lts t)) → grid ≡ matrix_of h.states (start (lts_of s))
  start-table start e = e ∙ ap₂ (λ (n : ℕ) (L : Lts). matrix_of n (start L)) (sheet-states s h g k) k.same

  pub inside-table : (start claim : List ℕ) {b : Bool}
      → (let m = states_of t in b ≡ within (table_lts t) (relation_of m claim) (both_conditions (table_lts t) (relation_of m start) (relation_of m claim)))
      → b ≡ is_inside (lts_of s) (relation_of h.states start) (relation_of h.states claim)
  inside-table start claim e =
      e ∙ pairs-inside (table_lts t) (relation_of (states_of t) start) (relation_of (states_of t) claim)
      ∙ ap₂ (λ (L : Lts) (m : ℕ). is_inside L (relation_of m start) (relation_of m claim)) k.same (sheet-states s h g k)

-- ## End start and ready start
-- the call comes to the answer r and leaves the words g
abbrev ComesTo : (Lts → Rel) → List ℕ → List ℕ → Answer (Unit {0}) → List ℕ → Type 0
ComesTo start s grid r g = write_start_call start s grid ≡ record { reply = checked_reply r; grid = g }

module _ (start : Lts → Rel) (s grid : List ℕ) where
  refusing : {r : Refusal} → broken (write_start_rules s grid) ≡ First r → ComesTo start s grid (Err r) grid
  unfolding write_start_call checked_reply
  refusing e = refuses (write_start_rules s grid) _ _ e

  -- what is left of the rules where the sheet keeps its own
  sized : {h : Header} → read_encoding s ≡ Ok h
      → broken (write_start_rules s grid) ≡ broken (eqb (length grid) (h.states * row_words h.states) otherwise Buffer ∷ [])
  unfolding write_start_rules
  sized e = let k = sheet-kept s e in rw k.1 (second-part (sheet_rules s) _ k.0)

  -- the refusal of the sheet is passed on as x
  pub stopped : (x : Answer (Unit {0})) {r : Refusal} → read_encoding s ≡ Err r → IsErrAnd x (λ q. q ≡ r) → ComesTo start s grid x grid
  unfolding write_start_rules
  stopped x e q = rw (passed_on x q) (refusing (first_part (sheet_rules s) _ (sheet-broken s e)))

  pub misfit : {h : Header} → read_encoding s ≡ Ok h → (length grid ≡ h.states * row_words h.states → ⊥)
      → ComesTo start s grid (Err Buffer) grid
  misfit {h} e n = refusing (stop _ _ _ (sized e) (sym (ne_eqb (length grid) (h.states * row_words h.states) n)) refl)

  pub written : {h : Header} {g : List ℕ} → read_encoding s ≡ Ok h → length grid ≡ h.states * row_words h.states
      → g ≡ matrix_of h.states (start (lts_of s)) → ComesTo start s grid (Ok tt) g
  unfolding write_start_call checked_reply
  written {h} e n w =
      let kept = done (pass _ _ _ (sized e) (sym (eq-eqb (length grid) (h.states * row_words h.states) n)) refl) in
      rw (w, (sheet-kept s e).1) (passes (write_start_rules s grid) _ _ kept)

-- ## Test simulation
-- what it says of its answer r
abbrev Tests : List ℕ → List ℕ → List ℕ → Answer Bool → Type 0
Tests s start claim r = (simulation_call s start claim ≡ simulation_reply r) × SimulationPromise s start claim (simulation_reply r)

module _ (s start claim : List ℕ) where
  tests : (r : Answer Bool) → simulation_call s start claim ≡ simulation_reply r → Tests s start claim r
  tests r e = (e, simulation-promised s start claim (simulation_reply r) e)

  unanswered : {r : Refusal} → broken (simulation_rules s start claim) ≡ First r → Tests s start claim (Err r)
  unfolding simulation_call simulation_reply
  unanswered {r} e = tests (Err r) (refuses (simulation_rules s start claim) _ _ e)

  -- what is left of the rules where the inputs keep theirs
  claimed : {h : Header} → read_inputs s start ≡ Ok h
      → broken (simulation_rules s start claim) ≡ broken (is_matrix h.states claim otherwise Grid ∷ [])
  unfolding simulation_rules
  claimed e = let k = input-kept s start e in rw k.1 (second-part (input_rules s start) _ k.0)

  -- the refusal of the inputs is passed on as x
  pub unready : (x : Answer Bool) {r : Refusal} → read_inputs s start ≡ Err r → IsErrAnd x (λ q. q ≡ r) → Tests s start claim x
  unfolding simulation_rules
  unready x e q = rw (passed_on x q) (unanswered (first_part (input_rules s start) _ (input-broken s start e)))

  module _ {h : Header} (e : read_inputs s start ≡ Ok h) {b : Bool} (t : b ≡ is_matrix h.states claim) where
    pub no-matrix : not b ≡ true → Tests s start claim (Err Grid)
    no-matrix n = unanswered (stop _ _ _ (claimed e) t n)

    pub tested : not b ≡ false → (y : Bool) → y ≡ is_inside (lts_of s) (relation_of h.states start) (relation_of h.states claim)
        → Tests s start claim (Ok y)
    unfolding simulation_call simulation_reply
    tested n y i = tests (Ok y) (passes (simulation_rules s start claim) _ _ (done (pass _ _ _ (claimed e) t n)) ∙ rw (← (input-kept s start e).1, ← i))
