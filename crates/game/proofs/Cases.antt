-- F6 of document 01 and refusals, computed from the definitions; and replies that the promise refuses.
use Prim.Native.Nat.{ℕ}
use native.Mathlib.Omega.{arith}
use mathlib.Core.Path.{◌≡◌, refl, sym, ap}
use mathlib.Core.Logic.{⊎_elim}
use mathlib.Core.List.{List, [], ◌∷◌, ◌++◌}
use Rattle.lts.specs.Bounded.{any_below, all_below, concat_below, restrict, list_below, lowest}
use Rattle.lts.specs.System.{all_states, any_state, all_actions, any_action, into, answered}
use Rattle.lts.specs.Rounds.{round}
use Rattle.lts.specs.Game.{defender_loses, challenger_wins}
use Rattle.lts.specs.declared.Refusal.TheVariants.{Length, NotReflexive, NoState, TooManyRounds}
use Rattle.lts.specs.Rule.{broken, checked, Reply, given, refused}
use Rattle.encoding.proofs.Sheets.{F3}
use Rattle.encoding.specs.Records.{number_at, header_of, labels_length, state_record_at, transition_record_at, state_record, transition_record}
use Rattle.encoding.specs.Labels.{labels_fit}
use Rattle.encoding.specs.Encoding.{in_range, state_fits, states_fit, transition_fits, transitions_fit, walk, chain, reached, member, on_some_chain, all_reached, indices, occurrences, named_twice, none_twice, distinct, successor, successors_fit, headed_rules, sheet_rules}
use Rattle.encoding.specs.Denotation.{any, lts_of}
use Rattle.rows.specs.Rows.{bit}
use Rattle.relation.specs.Matrix.{in_matrix}
use Rattle.relation.specs.Check.{reflexive_below, transitive_pair, transitive_at, transitive_below, is_matrix, start_rules}
use Rattle.inputs.specs.Inputs.{input_rules, pair_rules}
use Rattle.game.specs.Play.{play_rules, play_call, PlayPromise}

abbrev all : List ℕ
all = 7 ∷ 7 ∷ 7 ∷ []

-- from (2, 0) one round does not win and two do; a sheet's refusal comes before a start's, that before a pair's, and that before the rounds'
cases : (play_call F3 all 2 0 1 ≡ given (0 ∷ [])) × (play_call F3 all 2 0 2 ≡ given (1 ∷ []))
    × (play_call (F3 ++ 0 ∷ []) (0 ∷ 0 ∷ 0 ∷ []) 3 0 7 ≡ refused Length) × (play_call F3 (0 ∷ 0 ∷ 0 ∷ []) 3 0 7 ≡ refused NotReflexive)
    × (play_call F3 all 0 3 7 ≡ refused NoState) × (play_call F3 all 2 0 7 ≡ refused TooManyRounds)
unfolding any_below all_below concat_below all_states any_state any_action defender_loses challenger_wins broken checked number_at header_of labels_length labels_fit state_record_at transition_record_at state_record transition_record in_range state_fits states_fit transition_fits transitions_fit walk chain reached member list_below lowest on_some_chain all_reached indices occurrences named_twice none_twice distinct successor successors_fit headed_rules sheet_rules any lts_of bit in_matrix reflexive_below transitive_pair transitive_at transitive_below is_matrix start_rules input_rules pair_rules play_rules play_call
cases = (refl, refl, refl, refl, refl, refl)

-- yes is not no
not-both : given (1 ∷ []) ≡ given (0 ∷ []) → ⊥
not-both e = let f = ap (λ (r : Reply). r.values) e in let z : ◌≡◌ {A = ℕ} 1 0 = cc in omega arith

-- the promise refuses a win with one round, and none with two
not-early : PlayPromise F3 all 2 0 1 (given (1 ∷ [])) → ⊥
unfolding any_below all_below concat_below restrict all_states any_state all_actions into answered round broken number_at header_of labels_length labels_fit state_record_at transition_record_at state_record transition_record in_range state_fits states_fit transition_fits transitions_fit walk chain reached member list_below lowest on_some_chain all_reached indices occurrences named_twice none_twice distinct successor successors_fit headed_rules sheet_rules any lts_of bit in_matrix reflexive_below transitive_pair transitive_at transitive_below is_matrix start_rules input_rules pair_rules play_rules
not-early p = ⊎_elim (λ x. x.1) (λ x. not-both x.0) (p.answers refl)

not-never : PlayPromise F3 all 2 0 2 (given (0 ∷ [])) → ⊥
unfolding any_below all_below concat_below restrict all_states any_state all_actions into answered round broken number_at header_of labels_length labels_fit state_record_at transition_record_at state_record transition_record in_range state_fits states_fit transition_fits transitions_fit walk chain reached member list_below lowest on_some_chain all_reached indices occurrences named_twice none_twice distinct successor successors_fit headed_rules sheet_rules any lts_of bit in_matrix reflexive_below transitive_pair transitive_at transitive_below is_matrix start_rules input_rules pair_rules play_rules
not-never p = ⊎_elim (λ x. not-both (sym x.0)) (λ x. x.1 tt) (p.answers refl)
