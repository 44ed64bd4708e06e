-- The text of document 01's F3, and of a refusal, computed.
use Prim.Native.Nat.{ℕ}
use mathlib.Core.Path.{◌≡◌, refl}
use mathlib.Core.Bool.{xor}
use mathlib.Core.List.{List, [], ◌∷◌}
use Rattle.lts.specs.Bounded.{any_below, all_below, sum_below, count_below, passing, concat_below, list_below, lowest, restrict}
use Rattle.lts.specs.System.{all_states, any_state, all_actions, into, termination_preorder}
use Rattle.lts.specs.Refinement.{initial, block, representative, is_representative, pending, remove, split, prune, refine}
use Rattle.lts.specs.Refinement.{each_action, step_of, chosen, step, run, coarsest, pair_count, block_count}
use Rattle.lts.specs.Rule.{broken, checked}
use Rattle.encoding.specs.Records.{number_at, header_of, labels_length, state_record_at, transition_record_at, state_record, transition_record}
use Rattle.encoding.specs.Labels.{labels_fit}
use Rattle.encoding.specs.Encoding.{in_range, state_fits, states_fit, transition_fits, transitions_fit}
use Rattle.encoding.specs.Encoding.{walk, chain, reached, member, on_some_chain, all_reached, indices, occurrences, named_twice, none_twice, distinct, successor, successors_fit, headed_rules, sheet_rules}
use Rattle.encoding.specs.Denotation.{any, lts_of}
use Rattle.encoding.proofs.Sheets.{F3, F8}
use Rattle.report.specs.Decimal.{decimal_in, decimal}
use Rattle.lines.specs.Lines.{head_line, related_text, state_line, refused_line}
use Rattle.listing.specs.Text.{system_text, flow_text}

-- "pages 3 turns 2 kept 6 classes 3", "0 0 0 2", "1 1 0 1 2", "2 2 2"
text : List ℕ
text =
    112 ∷ 97 ∷ 103 ∷ 101 ∷ 115 ∷ 32 ∷ 51 ∷ 32 ∷ 116 ∷ 117 ∷ 114 ∷ 110 ∷ 115 ∷ 32 ∷ 50 ∷ 32 ∷ 107 ∷ 101 ∷ 112 ∷ 116 ∷ 32 ∷ 54 ∷ 32
    ∷ 99 ∷ 108 ∷ 97 ∷ 115 ∷ 115 ∷ 101 ∷ 115 ∷ 32 ∷ 51 ∷ 10
    ∷ 48 ∷ 32 ∷ 48 ∷ 32 ∷ 48 ∷ 32 ∷ 50 ∷ 10 ∷ 49 ∷ 32 ∷ 49 ∷ 32 ∷ 48 ∷ 32 ∷ 49 ∷ 32 ∷ 50 ∷ 10 ∷ 50 ∷ 32 ∷ 50 ∷ 32 ∷ 50 ∷ 10 ∷ []

-- F8, which is F3 with one byte more: "refused 1"
cases : (flow_text F3 ≡ text) × (flow_text F8 ≡ 114 ∷ 101 ∷ 102 ∷ 117 ∷ 115 ∷ 101 ∷ 100 ∷ 32 ∷ 49 ∷ 10 ∷ [])
unfolding text xor any_below all_below sum_below count_below passing concat_below list_below lowest restrict all_states any_state all_actions into
    termination_preorder initial block representative is_representative pending remove split prune refine each_action step_of chosen step run coarsest
    pair_count block_count number_at header_of labels_length labels_fit state_record_at transition_record_at state_record transition_record in_range state_fits states_fit transition_fits
    transitions_fit walk chain reached member on_some_chain all_reached indices occurrences named_twice none_twice distinct successor successors_fit headed_rules sheet_rules broken checked any lts_of decimal_in decimal head_line
    related_text state_line refused_line system_text flow_text
cases = (refl, refl)
