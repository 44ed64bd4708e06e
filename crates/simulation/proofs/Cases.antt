-- End start, ready start and test simulation on F3 of document 01 and other small sheets, computed: replies and buffers, a refusal of each
-- part of the rules, and outcomes that the promises refuse.
use Prim.Native.Nat.{ℕ}
use native.Mathlib.Omega.{arith}
use mathlib.Core.List.{List, [], ◌∷◌}
use mathlib.Core.Logic.{⊎_elim}
use mathlib.Core.Path.{◌≡◌, refl, ap}
use lib.ListN.{get_or}
use Rattle.lts.specs.Bounded.{any_below, all_below, concat_below, list_below, restrict, lowest}
use Rattle.lts.specs.System.{all_states, any_state, all_actions, into, within, answered, is_simulation, termination_preorder}
use Rattle.lts.specs.Ready.{same_actions, ready_preorder}
use Rattle.lts.specs.Rule.{broken, checked, Reply, given, refused}
use Rattle.lts.specs.declared.Refusal.TheVariants.{Length, Grid, NotReflexive, NotTransitive, Buffer}
use Rattle.encoding.proofs.Sheets.{F3}
use Rattle.encoding.specs.Records.{number_at, header_of, labels_length, state_record_at, transition_record_at, state_record, transition_record}
use Rattle.encoding.specs.Labels.{labels_fit}
use Rattle.encoding.specs.Encoding.{in_range, state_fits, transition_fits, states_fit, transitions_fit, walk, chain, reached, member, on_some_chain, all_reached, indices, occurrences, named_twice, none_twice, distinct, successor, successors_fit, headed_rules, sheet_rules}
use Rattle.encoding.specs.Denotation.{any, lts_of}
use Rattle.rows.specs.Rows.{bit, word_of, word_at}
use Rattle.relation.specs.Matrix.{in_matrix, matrix_of}
use Rattle.relation.specs.Check.{is_matrix, reflexive_below, transitive_below, transitive_at, transitive_pair, start_rules}
use Rattle.inputs.specs.Inputs.{input_rules}
use Rattle.simulation.specs.Calls.{write_start_rules, write_start_call, EndStart, ReadyStart, WriteStartPromise, is_inside, simulation_rules, simulation_call, SimulationPromise}
use Rattle.simulation.proofs.Promise.{yes_iff}

-- with the end mark on page 1
abbrev F3-marked : List ℕ
F3-marked =
    3 ∷ 0 ∷ 1 ∷ 0 ∷ 2 ∷ 0 ∷ 0 ∷ 0 ∷ 1 ∷ 0 ∷ 1 ∷ 0 ∷ 0 ∷ 0 ∷ 0 ∷ 0 ∷ 2 ∷ 0 ∷ 1 ∷ 0 ∷ 1 ∷ 0 ∷ 0 ∷ 0 ∷ 1 ∷ 0 ∷ 2 ∷ 0 ∷ 0 ∷ 0 ∷ []

abbrev all : List ℕ
all = 7 ∷ 7 ∷ 7 ∷ []

abbrev diagonal : List ℕ
diagonal = 1 ∷ 2 ∷ 4 ∷ []

abbrev blank : List ℕ
blank = 0 ∷ 0 ∷ 0 ∷ []

-- (0, 2) and (1, 2): a simulation that is not reflexive
abbrev two : List ℕ
two = 4 ∷ 4 ∷ 0 ∷ []

-- ## End start
-- all pairs where no page has the end mark; with it on page 1 that page is related to itself alone
written : (write_start_call termination_preorder F3 blank ≡ record { reply = given []; grid = all })
    × (write_start_call termination_preorder F3-marked blank ≡ record { reply = given []; grid = 7 ∷ 2 ∷ 7 ∷ [] })
unfolding number_at header_of labels_length labels_fit state_record_at transition_record_at state_record transition_record in_range state_fits transition_fits all_below states_fit transitions_fit walk chain concat_below reached member lowest on_some_chain all_reached indices occurrences named_twice none_twice distinct successor successors_fit headed_rules sheet_rules broken checked lts_of word_of word_at matrix_of list_below termination_preorder write_start_rules write_start_call
written = (refl, refl)

-- too few bytes come before a buffer that is too short; the buffer stays
unwritten : (write_start_call termination_preorder [] (9 ∷ []) ≡ record { reply = refused Length; grid = 9 ∷ [] })
    × (write_start_call termination_preorder F3 (9 ∷ []) ≡ record { reply = refused Buffer; grid = 9 ∷ [] })
unfolding number_at header_of labels_length labels_fit state_record_at transition_record_at state_record transition_record in_range state_fits transition_fits all_below states_fit transitions_fit walk chain concat_below reached member list_below lowest on_some_chain all_reached indices occurrences named_twice none_twice distinct successor successors_fit headed_rules sheet_rules broken checked write_start_rules write_start_call
unwritten = (refl, refl)

-- the promise refuses a buffer without pairs, and all pairs where page 1 has the end mark and page 0 has not
not-blank : (reply : Reply) → WriteStartPromise EndStart F3 blank reply blank → ⊥
unfolding number_at header_of labels_length labels_fit state_record_at transition_record_at state_record transition_record in_range state_fits transition_fits all_below states_fit transitions_fit walk chain concat_below reached member list_below lowest on_some_chain all_reached indices occurrences named_twice none_twice distinct successor successors_fit headed_rules sheet_rules broken bit in_matrix write_start_rules
not-blank reply p = ((p.answers refl).1.holds 0 0 (omega arith) (omega arith)).1 (λ t. t)

not-all-ends : (reply : Reply) → WriteStartPromise EndStart F3-marked blank reply all → ⊥
unfolding number_at header_of labels_length labels_fit state_record_at transition_record_at state_record transition_record in_range state_fits transition_fits all_below states_fit transitions_fit walk chain concat_below reached member list_below lowest on_some_chain all_reached indices occurrences named_twice none_twice distinct successor successors_fit headed_rules sheet_rules broken lts_of bit in_matrix write_start_rules
not-all-ends reply p = ((p.answers refl).1.holds 1 0 (omega arith) (omega arith)).0 tt tt

-- ## Ready start
-- page 0 has action 1, page 1 has 1 and 2, page 2 has 2; pages 3 and 4 have none
abbrev buttons : List ℕ
buttons =
    5 ∷ 0 ∷ 2 ∷ 0 ∷ 4 ∷ 0 ∷ 0 ∷ 0 ∷ 1 ∷ 0 ∷ 0 ∷ 0 ∷ 2 ∷ 0 ∷ 0 ∷ 0 ∷ 4 ∷ 0 ∷ 0 ∷ 0 ∷ 0 ∷ 0 ∷ 0 ∷ 0 ∷ 0 ∷ 0
    ∷ 1 ∷ 0 ∷ 3 ∷ 0 ∷ 0 ∷ 0 ∷ 1 ∷ 0 ∷ 3 ∷ 0 ∷ 3 ∷ 0 ∷ 2 ∷ 0 ∷ 3 ∷ 0 ∷ 0 ∷ 0 ∷ 2 ∷ 0 ∷ 3 ∷ 0 ∷ 0 ∷ 0 ∷ []

abbrev blanks : List ℕ
blanks = 0 ∷ 0 ∷ 0 ∷ 0 ∷ 0 ∷ []

-- F3 with the end mark on page 0, which has the same action as page 2
abbrev F3-ended : List ℕ
F3-ended =
    3 ∷ 0 ∷ 1 ∷ 0 ∷ 2 ∷ 0 ∷ 1 ∷ 0 ∷ 1 ∷ 0 ∷ 0 ∷ 0 ∷ 0 ∷ 0 ∷ 0 ∷ 0 ∷ 2 ∷ 0 ∷ 1 ∷ 0 ∷ 1 ∷ 0 ∷ 0 ∷ 0 ∷ 1 ∷ 0 ∷ 2 ∷ 0 ∷ 0 ∷ 0 ∷ []

-- of `buttons` pages 3 and 4 alone are alike; F3's pages 0 and 2 are, and with the end mark page 2 is below page 0 alone. Refusals as for
-- the end start
readied : (write_start_call ready_preorder buttons blanks ≡ record { reply = given []; grid = 1 ∷ 2 ∷ 4 ∷ 24 ∷ 24 ∷ [] })
    × (write_start_call ready_preorder F3 blank ≡ record { reply = given []; grid = 5 ∷ 2 ∷ 5 ∷ [] })
    × (write_start_call ready_preorder F3-ended blank ≡ record { reply = given []; grid = 1 ∷ 2 ∷ 5 ∷ [] })
    × (write_start_call ready_preorder [] (9 ∷ []) ≡ record { reply = refused Length; grid = 9 ∷ [] })
    × (write_start_call ready_preorder F3 (9 ∷ []) ≡ record { reply = refused Buffer; grid = 9 ∷ [] })
unfolding number_at header_of labels_length labels_fit state_record_at transition_record_at state_record transition_record in_range state_fits transition_fits all_below states_fit transitions_fit walk chain concat_below reached member list_below lowest on_some_chain all_reached indices occurrences named_twice none_twice distinct successor successors_fit headed_rules sheet_rules broken checked any lts_of word_of word_at matrix_of any_below any_state all_actions into termination_preorder same_actions ready_preorder write_start_rules write_start_call
readied = (refl, refl, refl, refl, refl)

-- the promise refuses page 0 below page 1, which has an action more, and below page 2, which has as many actions; pages without moves told
-- apart; and a page with the end mark below one without
not-included : (reply : Reply) → WriteStartPromise ReadyStart buttons blanks reply (3 ∷ 2 ∷ 4 ∷ 24 ∷ 24 ∷ []) → ⊥
unfolding number_at header_of labels_length labels_fit state_record_at transition_record_at state_record transition_record in_range state_fits transition_fits all_below states_fit transitions_fit walk chain concat_below reached member list_below lowest on_some_chain all_reached indices occurrences named_twice none_twice distinct successor successors_fit headed_rules sheet_rules broken any lts_of bit in_matrix write_start_rules
not-included reply p = (((((p.answers refl).1.holds 0 1 (omega arith) (omega arith)).0 tt).1 2).1 (3, tt)).1

not-as-many : (reply : Reply) → WriteStartPromise ReadyStart buttons blanks reply (5 ∷ 2 ∷ 4 ∷ 24 ∷ 24 ∷ []) → ⊥
unfolding number_at header_of labels_length labels_fit state_record_at transition_record_at state_record transition_record in_range state_fits transition_fits all_below states_fit transitions_fit walk chain concat_below reached member list_below lowest on_some_chain all_reached indices occurrences named_twice none_twice distinct successor successors_fit headed_rules sheet_rules broken any lts_of bit in_matrix write_start_rules
not-as-many reply p = (((((p.answers refl).1.holds 0 2 (omega arith) (omega arith)).0 tt).1 1).0 (3, tt)).1

not-apart : (reply : Reply) → WriteStartPromise ReadyStart buttons blanks reply (1 ∷ 2 ∷ 4 ∷ 8 ∷ 16 ∷ []) → ⊥
unfolding number_at header_of labels_length labels_fit state_record_at transition_record_at state_record transition_record in_range state_fits transition_fits all_below states_fit transitions_fit walk chain concat_below reached member list_below lowest on_some_chain all_reached indices occurrences named_twice none_twice distinct successor successors_fit headed_rules sheet_rules broken any lts_of bit in_matrix write_start_rules
not-apart reply p = ((p.answers refl).1.holds 3 4 (omega arith) (omega arith)).1 (λ t. t, λ a. (λ o. absurd o.1, λ o. absurd o.1))

not-without-ends : (reply : Reply) → WriteStartPromise ReadyStart F3-ended blank reply (5 ∷ 2 ∷ 5 ∷ []) → ⊥
unfolding number_at header_of labels_length labels_fit state_record_at transition_record_at state_record transition_record in_range state_fits transition_fits all_below states_fit transitions_fit walk chain concat_below reached member list_below lowest on_some_chain all_reached indices occurrences named_twice none_twice distinct successor successors_fit headed_rules sheet_rules broken any lts_of bit in_matrix write_start_rules
not-without-ends reply p = (((p.answers refl).1.holds 0 2 (omega arith) (omega arith)).0 tt).0 tt

-- ## Test simulation
-- yes; all pairs are no simulation; and `two` is one, but not inside the diagonal
tested : (simulation_call F3 all two ≡ given (1 ∷ [])) × (simulation_call F3 all all ≡ given (0 ∷ [])) × (simulation_call F3 diagonal two ≡ given (0 ∷ []))
unfolding number_at header_of labels_length labels_fit state_record_at transition_record_at state_record transition_record in_range state_fits transition_fits all_below states_fit transitions_fit walk chain concat_below reached member list_below lowest on_some_chain all_reached indices occurrences named_twice none_twice distinct successor successors_fit headed_rules sheet_rules broken checked any lts_of is_matrix reflexive_below transitive_below transitive_at transitive_pair start_rules input_rules bit in_matrix any_below all_states any_state all_actions into within answered is_simulation is_inside simulation_rules simulation_call
tested = (refl, refl, refl)

-- the sheet comes before the start, and the start before the claim, which here has a bit at q = 3; (0, 1), (1, 2) want (0, 2)
untested : (simulation_call [] blank (8 ∷ 0 ∷ 0 ∷ []) ≡ refused Length)
    × (simulation_call F3 [] (8 ∷ 0 ∷ 0 ∷ []) ≡ refused Grid)
    × (simulation_call F3 blank (8 ∷ 0 ∷ 0 ∷ []) ≡ refused NotReflexive)
    × (simulation_call F3 (3 ∷ 6 ∷ 4 ∷ []) (8 ∷ 0 ∷ 0 ∷ []) ≡ refused NotTransitive)
    × (simulation_call F3 all (8 ∷ 0 ∷ 0 ∷ []) ≡ refused Grid)
unfolding number_at header_of labels_length labels_fit state_record_at transition_record_at state_record transition_record in_range state_fits transition_fits all_below states_fit transitions_fit walk chain concat_below reached member list_below lowest on_some_chain all_reached indices occurrences named_twice none_twice distinct successor successors_fit headed_rules sheet_rules broken checked is_matrix reflexive_below transitive_below transitive_at transitive_pair start_rules input_rules bit in_matrix simulation_rules simulation_call
untested = (refl, refl, refl, refl, refl)

first-value : {xs ys : List ℕ} → given xs ≡ given ys → get_or xs 0 0 ≡ get_or ys 0 0
first-value e = ap (λ (r : Reply). get_or r.values 0 0) e

-- the promise refuses a no for `two`, and a yes for all pairs: page 2 moves and page 1 does not
not-no : SimulationPromise F3 all two (given (0 ∷ [])) → ⊥
unfolding number_at header_of labels_length labels_fit state_record_at transition_record_at state_record transition_record in_range state_fits transition_fits all_below states_fit transitions_fit walk chain concat_below reached member list_below lowest on_some_chain all_reached indices occurrences named_twice none_twice distinct successor successors_fit headed_rules sheet_rules broken any lts_of is_matrix reflexive_below transitive_below transitive_at transitive_pair start_rules input_rules bit in_matrix any_below all_states any_state all_actions into within answered is_simulation is_inside simulation_rules
not-no p = ⊎_elim (λ x. let z = first-value x.0 in omega arith) (λ x. x.1 ((yes_iff F3 all two refl).0 tt)) (p.answers refl)

not_yes : SimulationPromise F3 all all (given (1 ∷ [])) → ⊥
unfolding number_at header_of labels_length labels_fit state_record_at transition_record_at state_record transition_record in_range state_fits transition_fits all_below states_fit transitions_fit walk chain concat_below reached member list_below lowest on_some_chain all_reached indices occurrences named_twice none_twice distinct successor successors_fit headed_rules sheet_rules broken any lts_of is_matrix reflexive_below transitive_below transitive_at transitive_pair start_rules input_rules bit in_matrix restrict simulation_rules
not_yes p = ⊎_elim (λ x. (x.1.answer {p = 2} {q = 1} 1 2 tt tt).1) (λ x. let z = first-value x.0 in omega arith) (p.answers refl)
