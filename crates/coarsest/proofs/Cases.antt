-- The call on F3 of document 01, computed: its reply and its buffers, a refusal of each part of the rules, and answers that the promise refuses.
use Prim.Native.Nat.{ℕ}
use mathlib.Core.Bool.{xor}
use mathlib.Core.List.{List, [], ◌∷◌, head-eq_of_cons-eq}
use mathlib.Core.Path.{◌≡◌, refl, sym, ap}
use native.Mathlib.Omega.{arith}
use Rattle.lts.specs.Bounded.{any_below, all_below, sum_below, count_below, passing, concat_below, list_below, lowest, restrict}
use Rattle.lts.specs.System.{all_states, any_state, all_actions, into, within, answered, is_simulation}
use Rattle.lts.specs.Refinement.{run, step, step_of, each_action, chosen, pending, is_representative, representative, representatives as representatives_of, block, coarsest, initial, pair_count, block_count, refine, split, prune, remove}
use Rattle.lts.specs.declared.Refusal.{Refusal}
use Rattle.lts.specs.Rule.{Nothing, broken, checked, Reply, given, refused}
use Rattle.lts.proofs.Rule.{numbered}
use Rattle.lts.specs.declared.Refusal.TheVariants.{Length, NotReflexive, Buffer}
use Rattle.encoding.proofs.Sheets.{F3}
use Rattle.encoding.specs.Records.{number_at, header_of, labels_length, state_record_at, transition_record_at, state_record, transition_record}
use Rattle.encoding.specs.Labels.{labels_fit}
use Rattle.encoding.specs.Encoding.{in_range, state_fits, transition_fits, states_fit, transitions_fit, walk, chain, reached, member, on_some_chain, all_reached, indices, occurrences, named_twice, none_twice, distinct, successor, successors_fit, headed_rules, sheet_rules}
use Rattle.encoding.specs.Denotation.{any, lts_of}
use Rattle.rows.specs.Rows.{bit, word_of, word_at}
use Rattle.relation.specs.Matrix.{in_matrix, matrix_of}
use Rattle.relation.specs.Check.{is_matrix, reflexive_below, transitive_below, transitive_at, transitive_pair, start_rules}
use Rattle.inputs.specs.Inputs.{input_rules}
use Rattle.coarsest.specs.Call.{coarsest_rules, refined, coarsest_call, CoarsestPromise}

abbrev all : List ℕ
all = 7 ∷ 7 ∷ 7 ∷ []

abbrev blank : List ℕ
blank = 0 ∷ 0 ∷ 0 ∷ []

-- no page has an end mark, so the end start is all pairs: 2 turns, 6 kept, 3 blocks
done : coarsest_call F3 all [] blank blank ≡ record { reply = given (2 ∷ 6 ∷ 3 ∷ []); grid = 5 ∷ 7 ∷ 4 ∷ []; representatives = 0 ∷ 1 ∷ 2 ∷ [] }
unfolding number_at header_of labels_length labels_fit state_record_at transition_record_at state_record transition_record in_range state_fits transition_fits all_below states_fit transitions_fit walk chain concat_below reached member on_some_chain all_reached indices occurrences named_twice none_twice distinct successor successors_fit headed_rules sheet_rules broken checked any lts_of is_matrix reflexive_below transitive_below transitive_at transitive_pair start_rules input_rules bit word_of word_at in_matrix matrix_of coarsest_rules refined coarsest_call any_below sum_below count_below passing list_below lowest restrict all_states any_state all_actions into run step step_of each_action chosen pending is_representative representative representatives_of block coarsest initial pair_count block_count refine split prune remove xor
done = refl

-- too few bytes come before a start that is not reflexive, and that before a buffer that is too short; the buffers stay
refusals : (coarsest_call [] blank [] blank [] ≡ record { reply = refused Length; grid = blank; representatives = [] })
    × (coarsest_call F3 blank [] blank [] ≡ record { reply = refused NotReflexive; grid = blank; representatives = [] })
    × (coarsest_call F3 all [] blank [] ≡ record { reply = refused Buffer; grid = blank; representatives = [] })
unfolding number_at header_of labels_length labels_fit state_record_at transition_record_at state_record transition_record in_range state_fits transition_fits all_below states_fit transitions_fit walk chain concat_below reached member list_below lowest on_some_chain all_reached indices occurrences named_twice none_twice distinct successor successors_fit headed_rules sheet_rules broken checked is_matrix reflexive_below transitive_below transitive_at transitive_pair start_rules input_rules bit in_matrix coarsest_rules coarsest_call
refusals = (refl, refl, refl)

-- ## Wrong outcomes that the promise refuses, whatever else came back
rules-kept : broken (coarsest_rules F3 all blank blank) ≡ Nothing
unfolding number_at header_of labels_length labels_fit state_record_at transition_record_at state_record transition_record in_range state_fits transition_fits all_below states_fit transitions_fit walk chain concat_below reached member list_below lowest on_some_chain all_reached indices occurrences named_twice none_twice distinct successor successors_fit headed_rules sheet_rules broken is_matrix reflexive_below transitive_below transitive_at transitive_pair start_rules input_rules bit in_matrix coarsest_rules
rules-kept = refl

-- the diagonal, which does not contain the simulation that has (0, 2) and (1, 2) too
not-diagonal : (reply : Reply) (representatives : List ℕ) → CoarsestPromise F3 all [] blank blank reply (1 ∷ 2 ∷ 4 ∷ []) representatives → ⊥
unfolding number_at header_of state_record_at transition_record_at labels_length state_record transition_record walk chain any lts_of any_below all_below restrict all_states any_state all_actions into within answered is_simulation bit in_matrix
not-diagonal reply representatives p = (p.answers rules-kept).relation.greatest (in_matrix 1 (5 ∷ 6 ∷ 4 ∷ [])) tt tt

-- all pairs, which are no simulation
not-all-pairs : (reply : Reply) (representatives : List ℕ) → CoarsestPromise F3 all [] blank blank reply all representatives → ⊥
unfolding number_at header_of state_record_at transition_record_at labels_length state_record transition_record walk chain any lts_of any_below all_below restrict all_states any_state all_actions into within answered is_simulation bit in_matrix
not-all-pairs reply representatives p = (p.answers rules-kept).relation.simulation

-- a turn more than the rule makes
not-invented : (grid representatives : List ℕ) → CoarsestPromise F3 all [] blank blank (given (3 ∷ 6 ∷ 3 ∷ [])) grid representatives → ⊥
unfolding number_at header_of state_record_at transition_record_at labels_length state_record transition_record walk chain any lts_of any_below all_below sum_below count_below passing list_below lowest restrict all_states any_state all_actions into run step step_of each_action chosen pending is_representative representative representatives_of block coarsest initial pair_count block_count refine split prune remove xor bit in_matrix
not-invented grid representatives p =
    let e : ◌≡◌ {A = List ℕ} (3 ∷ 6 ∷ 3 ∷ []) _ = ap (λ (x : Reply). x.values) (p.answers rules-kept).replied in
    let z : ◌≡◌ {A = ℕ} 3 2 = head-eq_of_cons-eq e in
    omega (arith, z)

-- 0 for every block's name: page 1 is in no block with page 0
not-constant : (reply : Reply) → CoarsestPromise F3 all [] blank blank reply (5 ∷ 7 ∷ 4 ∷ []) blank → ⊥
unfolding number_at header_of state_record_at transition_record_at labels_length state_record transition_record walk chain any lts_of restrict block bit in_matrix
not-constant reply p = (p.answers rules-kept).member 1 (omega arith)

-- a refusal of what keeps the rules
not-refused : (q : Refusal) (grid representatives : List ℕ) → CoarsestPromise F3 all [] blank blank (refused q) grid representatives → ⊥
not-refused q grid representatives p = numbered q (sym (ap (λ (x : Reply). x.refusal) (p.answers rules-kept).replied))
