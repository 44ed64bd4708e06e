-- F1 to F9 of document 01 ("Flows on each side"), as one computed theorem about the calls' own definitions, on the bytes of the sheets.
use Prim.Native.Nat.{ℕ}
use mathlib.Core.Bool.{xor}
use mathlib.Core.List.{List, [], ◌∷◌}
use mathlib.Core.Path.{◌≡◌, refl}
use Rattle.lts.specs.declared.Refusal.TheVariants.{Length, Range, ReachedTwice}
use Rattle.lts.specs.Bounded.{any_below, all_below, sum_below, largest_below, count_below, passing, concat_below, list_below, lowest, restrict}
use Rattle.lts.specs.System.{all_states, any_state, all_actions, any_action, into, termination_preorder, answered}
use Rattle.lts.specs.Refinement.{run, step, step_of, each_action, chosen, pending, is_representative, representative, representatives, block, coarsest, initial, pair_count, block_count, refine, split, prune, remove}
use Rattle.lts.specs.Rounds.{round, refuted_at, refutation_round}
use Rattle.lts.specs.Strategy.{holds, sound, all_sound, accepted, last_of, entries_of, entry_numbers, unanswered, entry_at, entries_in, entries_before, strategy_at, strategy, refuted_count, strategy_length}
use Rattle.lts.specs.Depth.{depths_at, least, least_depth, depth_over, measure, measured, first_depth, depth_of}
use Rattle.lts.specs.Game.{defender_loses, challenger_wins}
use Rattle.lts.specs.Rule.{broken, checked, given, refused}
use Rattle.encoding.specs.Records.{number_at, header_of, labels_length, state_record_at, transition_record_at, state_record, transition_record}
use Rattle.encoding.specs.Labels.{labels_fit}
use Rattle.encoding.specs.Encoding.{in_range, state_fits, transition_fits, states_fit, transitions_fit, walk, chain, reached, member, on_some_chain, all_reached, indices, occurrences, named_twice, none_twice, distinct, successor, successors_fit, headed_rules, sheet_rules}
use Rattle.encoding.specs.Denotation.{any, lts_of}
use Rattle.encoding.proofs.Sheets.{F1, F2, F3, F4, F7, F8, F9}
use Rattle.rows.specs.Rows.{bit, word_of, word_at}
use Rattle.relation.specs.Matrix.{in_matrix, matrix_of}
use Rattle.relation.specs.Check.{is_matrix, reflexive_below, transitive_below, transitive_at, transitive_pair, start_rules}
use Rattle.inputs.specs.Inputs.{input_rules, pair_rules}
use Rattle.simulation.specs.Calls.{write_start_rules, write_start_call}
use Rattle.coarsest.specs.Call.{coarsest_rules, refined, coarsest_call}
use Rattle.strategy.specs.Check.{check_rules, check_call}
use Rattle.strategy.specs.Write.{write_rules, write_call}
use Rattle.game.specs.Play.{play_rules, play_call}

-- a grid's words for n pages, the block names and the twelve numbers of F5, before a call
abbrev one : List ℕ
one = 0 ∷ []

abbrev two : List ℕ
two = 0 ∷ 0 ∷ []

abbrev three : List ℕ
three = 0 ∷ 0 ∷ 0 ∷ []

abbrev four : List ℕ
four = 0 ∷ 0 ∷ 0 ∷ 0 ∷ []

abbrev twelve : List ℕ
twelve = 0 ∷ 0 ∷ 0 ∷ 0 ∷ 0 ∷ 0 ∷ 0 ∷ 0 ∷ 0 ∷ 0 ∷ 0 ∷ 0 ∷ []

abbrev F5 : List ℕ
F5 = 0 ∷ 1 ∷ 1 ∷ 1 ∷ 2 ∷ 1 ∷ 1 ∷ 2 ∷ 2 ∷ 0 ∷ 1 ∷ 2 ∷ []

-- the end starts of F1 to F4: no page has an end mark, so that they are all pairs
abbrev all : List ℕ
all = 7 ∷ 7 ∷ 7 ∷ []

flows :
    -- F1: 0 turns, 1 kept, 1 block
    (write_start_call termination_preorder F1 one ≡ record { reply = given []; grid = 1 ∷ [] })
    × (coarsest_call F1 (1 ∷ []) [] one one ≡ record { reply = given (0 ∷ 1 ∷ 1 ∷ []); grid = 1 ∷ []; representatives = 0 ∷ [] })
    -- F2: 0 turns, 4 kept, 1 block
    × (write_start_call termination_preorder F2 two ≡ record { reply = given []; grid = 3 ∷ 3 ∷ [] })
    × (coarsest_call F2 (3 ∷ 3 ∷ []) [] two two ≡ record { reply = given (0 ∷ 4 ∷ 1 ∷ []); grid = 3 ∷ 3 ∷ []; representatives = 0 ∷ 0 ∷ [] })
    -- F3: 2 turns, 6 kept, 3 blocks
    × (write_start_call termination_preorder F3 three ≡ record { reply = given []; grid = all })
    × (coarsest_call F3 all [] three three ≡ record { reply = given (2 ∷ 6 ∷ 3 ∷ []); grid = 5 ∷ 7 ∷ 4 ∷ []; representatives = 0 ∷ 1 ∷ 2 ∷ [] })
    -- F4: 3 turns, 10 kept, 4 blocks
    × (write_start_call termination_preorder F4 four ≡ record { reply = given []; grid = 15 ∷ 15 ∷ 15 ∷ 15 ∷ [] })
    × (coarsest_call F4 (15 ∷ 15 ∷ 15 ∷ 15 ∷ []) [] four four
    ≡ record { reply = given (3 ∷ 10 ∷ 4 ∷ []); grid = 1 ∷ 3 ∷ 7 ∷ 15 ∷ []; representatives = 0 ∷ 1 ∷ 2 ∷ 3 ∷ [] })
    -- F5: written, and accepted, with depth 2
    × (write_call entry_numbers 4 F3 all 2 0 twelve ≡ record { reply = given (3 ∷ []); plan = F5 })
    × (check_call F3 all (entries_of F5) ≡ given (2 ∷ 0 ∷ 2 ∷ []))
    -- F6: 1 round not won, 2 won
    × (play_call F3 all 2 0 1 ≡ given (0 ∷ []))
    × (play_call F3 all 2 0 2 ≡ given (1 ∷ []))
    -- F7, F8, F9: 2, 1, 16 with record 1, and the buffers stay
    × (coarsest_call F7 all [] three three ≡ record { reply = refused Range; grid = three; representatives = three })
    × (coarsest_call F8 all [] three three ≡ record { reply = refused Length; grid = three; representatives = three })
    × (coarsest_call F9 all [] three three ≡ record { reply = refused (ReachedTwice 1); grid = three; representatives = three })
unfolding number_at header_of labels_length labels_fit state_record_at transition_record_at state_record transition_record in_range state_fits transition_fits any_below all_below sum_below count_below passing concat_below list_below lowest restrict states_fit transitions_fit walk chain reached member on_some_chain all_reached indices occurrences named_twice none_twice distinct successor successors_fit headed_rules sheet_rules broken checked any lts_of is_matrix reflexive_below transitive_below transitive_at transitive_pair start_rules input_rules pair_rules bit word_of word_at in_matrix matrix_of all_states any_state all_actions any_action into termination_preorder answered run step step_of each_action chosen pending is_representative representative representatives block coarsest initial pair_count block_count refine split prune remove xor round refuted_at refutation_round holds sound all_sound accepted last_of entries_of entry_numbers largest_below depths_at least least_depth depth_over measure measured first_depth depth_of unanswered entry_at entries_in entries_before strategy_at strategy refuted_count strategy_length defender_loses challenger_wins write_start_rules write_start_call coarsest_rules refined coarsest_call check_rules check_call write_rules write_call play_rules play_call
flows = (refl, refl, refl, refl, refl, refl, refl, refl, refl, refl, refl, refl, refl, refl, refl)
