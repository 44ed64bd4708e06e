-- The call on F3 of document 01, computed: its reply and the bytes that it leaves, and a refusal.
use Prim.Native.Nat.{ℕ}
use mathlib.Core.Bool.{xor}
use mathlib.Core.List.{List, [], ◌∷◌}
use mathlib.Core.Path.{◌≡◌, refl}
use Rattle.lts.specs.Bounded.{any_below, all_below, sum_below, count_below, passing, concat_below, list_below, lowest, restrict}
use Rattle.lts.specs.System.{all_states, any_state, all_actions, into}
use Rattle.lts.specs.Refinement.{run, step, step_of, each_action, chosen, pending, is_representative, representative, representatives as representatives_of, block, coarsest, initial, pair_count, block_count, refine, split, prune, remove}
use Rattle.lts.specs.Rule.{broken, checked, given, refused}
use Rattle.lts.specs.declared.Refusal.TheVariants.{Buffer}
use Rattle.encoding.proofs.Sheets.{F3}
use Rattle.encoding.specs.Records.{number_at, header_of, labels_length, state_record_at, transition_record_at, state_record, transition_record}
use Rattle.encoding.specs.Labels.{labels_fit}
use Rattle.encoding.specs.Encoding.{in_range, state_fits, transition_fits, states_fit, transitions_fit, walk, chain, reached, member, on_some_chain, all_reached, indices, occurrences, named_twice, none_twice, distinct, successor, successors_fit, headed_rules, sheet_rules}
use Rattle.encoding.specs.Denotation.{any, lts_of}
use Rattle.rows.specs.Rows.{bit, word_of, word_at}
use Rattle.relation.specs.Matrix.{in_matrix, matrix_of}
use Rattle.relation.specs.Check.{is_matrix, reflexive_below, transitive_below, transitive_at, transitive_pair, start_rules}
use Rattle.inputs.specs.Inputs.{input_rules}
use Rattle.carry.specs.Carried.{number_of, digits, numbers_of, list_of, bytes_of}
use Rattle.carry.specs.Bytes.{count_of, carried_by}
use Rattle.coarsest.specs.Call.{coarsest_rules, refined}
use Rattle.coarsest_bytes.specs.Call.{carried_back, coarsest_on_bytes}

-- a word of one byte, before others
abbrev word : ℕ → List ℕ → List ℕ
word b rest = b ∷ 0 ∷ 0 ∷ 0 ∷ 0 ∷ 0 ∷ 0 ∷ 0 ∷ rest

abbrev all : List ℕ
all = word 7 (word 7 (word 7 []))

-- one number, 0, and a last byte that is ignored
abbrev turns : List ℕ
turns = 0 ∷ 0 ∷ 5 ∷ []

abbrev nines : List ℕ
nines = 9 ∷ 9 ∷ 9 ∷ 9 ∷ 9 ∷ 9 ∷ []

-- the end start is all pairs: 2 turns, 6 kept, 3 blocks
done : coarsest_on_bytes F3 all turns all nines
    ≡ record { reply = given (2 ∷ 6 ∷ 3 ∷ []); grid = word 5 (word 7 (word 4 [])); representatives = 0 ∷ 0 ∷ 1 ∷ 0 ∷ 2 ∷ 0 ∷ [] }
unfolding number_at header_of labels_length labels_fit state_record_at transition_record_at state_record transition_record in_range state_fits transition_fits all_below states_fit transitions_fit walk chain concat_below reached member on_some_chain all_reached indices occurrences named_twice none_twice distinct successor successors_fit headed_rules sheet_rules broken checked any lts_of is_matrix reflexive_below transitive_below transitive_at transitive_pair start_rules input_rules bit word_of word_at in_matrix matrix_of coarsest_rules refined any_below sum_below count_below passing list_below lowest restrict all_states any_state all_actions into run step step_of each_action chosen pending is_representative representative representatives_of block coarsest initial pair_count block_count refine split prune remove xor number_of digits numbers_of list_of bytes_of count_of carried_by carried_back coarsest_on_bytes
done = refl

-- a grid of 23 bytes; both buffers stay
abbrev short : List ℕ
short = word 7 (word 7 (7 ∷ 0 ∷ 0 ∷ 0 ∷ 0 ∷ 0 ∷ 0 ∷ []))

unfit : coarsest_on_bytes F3 all turns short nines ≡ record { reply = refused Buffer; grid = short; representatives = nines }
unfolding number_at header_of labels_length labels_fit state_record_at transition_record_at state_record transition_record in_range state_fits transition_fits all_below states_fit transitions_fit walk chain concat_below reached member list_below lowest on_some_chain all_reached indices occurrences named_twice none_twice distinct successor successors_fit headed_rules sheet_rules broken checked is_matrix reflexive_below transitive_below transitive_at transitive_pair start_rules input_rules bit in_matrix coarsest_rules number_of numbers_of count_of carried_by coarsest_on_bytes
unfit = refl
