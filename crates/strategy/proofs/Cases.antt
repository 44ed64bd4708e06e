-- The plan calls on F3 of document 01, computed: F5's plan written and checked, each refusal of their own, and outcomes that the promises
-- refuse.
use Prim.Native.Nat.{ℕ}
use mathlib.Core.List.{List, [], ◌∷◌}
use mathlib.Core.Path.{◌≡◌, refl, sym, ap, subst₂, ◌∙◌}
use mathlib.Core.Logic.{⊎_elim}
use mathlib.Core.Bool.{not, xor}
use lib.Dec.{T}
use native.Mathlib.Omega.{arith}
use Rattle.lts.specs.Bounded.{any_below, all_below, sum_below, largest_below, count_below, passing, concat_below, lowest, restrict, list_below}
use Rattle.lts.specs.System.{all_states, any_state, all_actions, into, answered}
use Rattle.lts.specs.Refinement.{run, step, step_of, each_action, chosen, pending, is_representative, representative, block, coarsest, initial, refine, split, prune, remove}
use Rattle.lts.specs.Rounds.{round, refuted_at, refutation_round}
use Rattle.lts.specs.declared.Entry.{Entry}
use Rattle.lts.specs.Strategy.{holds, sound, all_sound, accepted, last_of, entries_of, entry_numbers, unanswered, entry_at, entries_in, entries_before, strategy_at, strategy, refuted_count, strategy_length}
use Rattle.lts.specs.Depth.{depths_at, least, least_depth, depth_over, measure, measured, first_depth, depth_of}
use Rattle.lts.specs.Rule.{Reply, broken, checked, given, refused}
use Rattle.lts.specs.declared.Refusal.TheVariants.{NotReflexive, NoState, StillRelated, Unsound, Buffer}
use Rattle.lts.proofs.Rule.{finding, numbered}
use Rattle.encoding.proofs.Sheets.{F3}
use Rattle.encoding.specs.Records.{number_at, header_of, labels_length, state_record_at, transition_record_at, state_record, transition_record}
use Rattle.encoding.specs.Labels.{labels_fit}
use Rattle.encoding.specs.Encoding.{in_range, state_fits, transition_fits, states_fit, transitions_fit, walk, chain, reached, member, on_some_chain, all_reached, indices, occurrences, named_twice, none_twice, distinct, successor, successors_fit, headed_rules, sheet_rules}
use Rattle.encoding.specs.Denotation.{any, lts_of}
use Rattle.rows.specs.Rows.{bit}
use Rattle.relation.specs.Matrix.{in_matrix}
use Rattle.relation.specs.Check.{is_matrix, reflexive_below, transitive_below, transitive_at, transitive_pair, start_rules}
use Rattle.inputs.specs.Inputs.{input_rules, pair_rules}
use Rattle.strategy.specs.Check.{kept_pairs, check_rules, check_call, Accepts, CheckPromise}
use Rattle.strategy.specs.Write.{write_rules, write_call, WritePromise}
use Rattle.strategy.proofs.Promise.{check-only}

abbrev all : List ℕ
all = 7 ∷ 7 ∷ 7 ∷ []

-- room for three entries, and what follows them
abbrev blank : List ℕ → List ℕ
blank rest = 9 ∷ 9 ∷ 9 ∷ 9 ∷ 9 ∷ 9 ∷ 9 ∷ 9 ∷ 9 ∷ 9 ∷ 9 ∷ 9 ∷ rest

-- F5's plan, and what follows it
abbrev F5 : List ℕ → List ℕ
F5 rest = 0 ∷ 1 ∷ 1 ∷ 1 ∷ 2 ∷ 1 ∷ 1 ∷ 2 ∷ 2 ∷ 0 ∷ 1 ∷ 2 ∷ rest

-- ## Write plan: three entries for (2, 0); the numbers behind them stay
written : (write_call entry_numbers 4 F3 all 2 0 (blank []) ≡ record { reply = given (3 ∷ []); plan = F5 [] })
    × (write_call entry_numbers 4 F3 all 2 0 (blank (8 ∷ 7 ∷ [])) ≡ record { reply = given (3 ∷ []); plan = F5 (8 ∷ 7 ∷ []) })
unfolding number_at header_of labels_length labels_fit state_record_at transition_record_at state_record transition_record in_range state_fits transition_fits all_below states_fit transitions_fit walk chain concat_below reached member list_below on_some_chain all_reached indices occurrences named_twice none_twice distinct successor successors_fit headed_rules sheet_rules broken checked any lts_of is_matrix reflexive_below transitive_below transitive_at transitive_pair start_rules input_rules pair_rules bit in_matrix write_rules write_call any_below sum_below count_below lowest restrict all_states any_state all_actions into answered round refuted_at refutation_round entry_numbers unanswered entry_at entries_in entries_before strategy_at strategy refuted_count strategy_length
written = (refl, refl)

-- 11 for a page that is none, 13 for the kept (0, 2), 15 for a number too few; before them a start that is not reflexive
write-refusals : (write_call entry_numbers 4 F3 all 3 0 [] ≡ record { reply = refused NoState; plan = [] })
    × (write_call entry_numbers 4 F3 all 0 2 [] ≡ record { reply = refused StillRelated; plan = [] })
    × (write_call entry_numbers 4 F3 all 2 0 (9 ∷ 9 ∷ 9 ∷ 9 ∷ 9 ∷ 9 ∷ 9 ∷ 9 ∷ 9 ∷ 9 ∷ 9 ∷ []) ≡ record { reply = refused Buffer; plan = 9 ∷ 9 ∷ 9 ∷ 9 ∷ 9 ∷ 9 ∷ 9 ∷ 9 ∷ 9 ∷ 9 ∷ 9 ∷ [] })
    × (write_call entry_numbers 4 F3 (0 ∷ 0 ∷ 0 ∷ []) 3 0 [] ≡ record { reply = refused NotReflexive; plan = [] })
unfolding number_at header_of labels_length labels_fit state_record_at transition_record_at state_record transition_record in_range state_fits transition_fits all_below states_fit transitions_fit walk chain concat_below reached member list_below on_some_chain all_reached indices occurrences named_twice none_twice distinct successor successors_fit headed_rules sheet_rules broken checked any lts_of is_matrix reflexive_below transitive_below transitive_at transitive_pair start_rules input_rules pair_rules bit in_matrix write_rules write_call any_below sum_below count_below lowest restrict all_states any_state all_actions into answered round refuted_at refutation_round refuted_count strategy_length
write-refusals = (refl, refl, refl, refl)

-- ## Check plan: the last pair and its depth, whatever numbers stand past the last whole entry
checks : (x y z : ℕ) → (check_call F3 all (entries_of (F5 [])) ≡ given (2 ∷ 0 ∷ 2 ∷ [])) × (check_call F3 all (entries_of (F5 (x ∷ []))) ≡ given (2 ∷ 0 ∷ 2 ∷ []))
    × (check_call F3 all (entries_of (F5 (x ∷ y ∷ []))) ≡ given (2 ∷ 0 ∷ 2 ∷ [])) × (check_call F3 all (entries_of (F5 (x ∷ y ∷ z ∷ []))) ≡ given (2 ∷ 0 ∷ 2 ∷ []))
unfolding number_at header_of labels_length labels_fit state_record_at transition_record_at state_record transition_record in_range state_fits transition_fits all_below states_fit transitions_fit walk chain concat_below reached member list_below lowest on_some_chain all_reached indices occurrences named_twice none_twice distinct successor successors_fit headed_rules sheet_rules broken checked any lts_of is_matrix reflexive_below transitive_below transitive_at transitive_pair start_rules input_rules bit in_matrix check_rules check_call any_below all_states holds sound all_sound accepted last_of entries_of largest_below depths_at least least_depth depth_over measure measured first_depth depth_of
checks x y z = (refl, refl, refl, refl)

-- ## The depth (document 02, L8), with the diagonal as start. The pair (2, 1) is outside it: depth 0 by a = 0, and 1 by its transition, since
-- page 1 has none. The pair (2, 0) by its transition, with the reply 1, is one deeper than the least of these that stands before it, in
-- either order; the written plan for it has depth 0. What counts is the last entry, not the deepest.
abbrev diagonal : List ℕ
diagonal = 1 ∷ 2 ∷ 4 ∷ []

abbrev outside : Entry
outside = record { p = 2; q = 1; a = 0; t = 0 }

abbrev unmatched : Entry
unmatched = record { p = 2; q = 1; a = 1; t = 2 }

abbrev matched : Entry
matched = record { p = 2; q = 0; a = 1; t = 2 }

depths : (check_call F3 diagonal (outside ∷ []) ≡ given (2 ∷ 1 ∷ 0 ∷ [])) × (check_call F3 diagonal (unmatched ∷ []) ≡ given (2 ∷ 1 ∷ 1 ∷ []))
    × (check_call F3 diagonal (unmatched ∷ matched ∷ []) ≡ given (2 ∷ 0 ∷ 2 ∷ [])) × (check_call F3 diagonal (unmatched ∷ outside ∷ matched ∷ []) ≡ given (2 ∷ 0 ∷ 1 ∷ []))
    × (check_call F3 diagonal (outside ∷ unmatched ∷ matched ∷ []) ≡ given (2 ∷ 0 ∷ 1 ∷ [])) × (check_call F3 diagonal (unmatched ∷ matched ∷ outside ∷ []) ≡ given (2 ∷ 1 ∷ 0 ∷ []))
unfolding number_at header_of labels_length labels_fit state_record_at transition_record_at state_record transition_record in_range state_fits transition_fits all_below states_fit transitions_fit walk chain concat_below reached member list_below lowest on_some_chain all_reached indices occurrences named_twice none_twice distinct successor successors_fit headed_rules sheet_rules broken checked any lts_of is_matrix reflexive_below transitive_below transitive_at transitive_pair start_rules input_rules bit in_matrix check_rules check_call any_below all_states holds sound all_sound accepted last_of entries_of largest_below depths_at least least_depth depth_over measure measured first_depth depth_of
depths = (refl, refl, refl, refl, refl, refl)

-- 14 for no entry, for too few numbers, for an entry that cites itself (2, 2, 1, 2)
check-refusals : (check_call F3 all (entries_of []) ≡ refused Unsound) × (check_call F3 all (entries_of (0 ∷ 1 ∷ 1 ∷ [])) ≡ refused Unsound)
    × (check_call F3 all (entries_of (2 ∷ 2 ∷ 1 ∷ 2 ∷ [])) ≡ refused Unsound)
unfolding number_at header_of labels_length labels_fit state_record_at transition_record_at state_record transition_record in_range state_fits transition_fits all_below states_fit transitions_fit walk chain concat_below reached member list_below lowest on_some_chain all_reached indices occurrences named_twice none_twice distinct successor successors_fit headed_rules sheet_rules broken checked any lts_of is_matrix reflexive_below transitive_below transitive_at transitive_pair start_rules input_rules bit in_matrix check_rules check_call any_below all_states holds sound all_sound accepted last_of entries_of
check-refusals = (refl, refl, refl)

-- ## What the promises refuse
-- a check that rejects F5's plan
not-rejected : CheckPromise F3 all (entries_of (F5 [])) (refused Unsound) → ⊥
unfolding number_at header_of labels_length labels_fit state_record_at transition_record_at state_record transition_record in_range state_fits transition_fits all_below states_fit transitions_fit walk chain concat_below reached member list_below lowest on_some_chain all_reached indices occurrences named_twice none_twice distinct successor successors_fit headed_rules sheet_rules broken checked any lts_of is_matrix reflexive_below transitive_below transitive_at transitive_pair start_rules input_rules bit in_matrix any_below all_states holds sound all_sound accepted entries_of
not-rejected p = (p.unsound refl).0 refl

-- a check that accepts any list whose last pair is the kept (0, 2)
not-accepted : (entries : List Entry) (depth : ℕ) → CheckPromise F3 all entries (given (0 ∷ 2 ∷ depth ∷ [])) → ⊥
unfolding number_at header_of state_record_at transition_record_at labels_length state_record transition_record walk chain any lts_of bit in_matrix any_below all_below count_below sum_below passing lowest restrict all_states any_state all_actions into run step step_of each_action chosen pending is_representative representative block coarsest initial refine split prune remove xor
not-accepted entries depth p = ⊎_elim (λ e. kept (p.answers e)) (λ e. numbered e.0 (ap (λ (r : Reply). r.refusal) (p.refuses e.0 e.1))) (finding (check_rules F3 all entries))
  where
    kept : Accepts F3 all entries (given (0 ∷ 2 ∷ depth ∷ [])) → ⊥
    kept a =
        let v = ap (λ (r : Reply). r.values) a.replied in
        let d : (last_of entries).p ≡ 0 = cc in
        let e : (last_of entries).q ≡ 2 = cc in
        subst₂ (λ (x y : ℕ). T (not (kept_pairs F3 all [] x y))) d e (a.dropped [])

-- another depth: the first's instead of the least, 0 where the page has no transition, the deepest's instead of the last's, one too low
other-depth : (entries : List Entry) (p q d c : ℕ) → check_call F3 diagonal entries ≡ given (p ∷ q ∷ d ∷ []) → (d ≡ c → ⊥)
    → CheckPromise F3 diagonal entries (given (p ∷ q ∷ c ∷ [])) → ⊥
other-depth entries p q d c is h promise =
    let v = ap (λ (r : Reply). r.values) (sym is ∙ check-only F3 diagonal entries _ promise) in
    let z : d ≡ c = cc in
    h z

not_first : CheckPromise F3 diagonal (unmatched ∷ outside ∷ matched ∷ []) (given (2 ∷ 0 ∷ 2 ∷ [])) → ⊥
not_first = other-depth _ 2 0 1 2 depths.3 (λ e. omega (arith, e))

not-zero : CheckPromise F3 diagonal (unmatched ∷ []) (given (2 ∷ 1 ∷ 0 ∷ [])) → ⊥
not-zero = other-depth _ 2 1 1 0 depths.1 (λ e. omega (arith, e))

not-deepest : CheckPromise F3 diagonal (unmatched ∷ matched ∷ outside ∷ []) (given (2 ∷ 1 ∷ 2 ∷ [])) → ⊥
not-deepest = other-depth _ 2 1 0 2 depths.5 (λ e. omega (arith, e))

not-too-low : CheckPromise F3 diagonal (unmatched ∷ matched ∷ []) (given (2 ∷ 0 ∷ 1 ∷ [])) → ⊥
not-too-low = other-depth _ 2 0 2 1 depths.2 (λ e. omega (arith, e))

-- a writer that writes nothing, with or without the right count
not_none : WritePromise entries_of 4 F3 all 2 0 (blank []) (given (0 ∷ [])) (blank []) → ⊥
unfolding number_at header_of labels_length labels_fit state_record_at transition_record_at state_record transition_record in_range state_fits transition_fits all_below states_fit transitions_fit walk chain concat_below reached member list_below on_some_chain all_reached indices occurrences named_twice none_twice distinct successor successors_fit headed_rules sheet_rules broken checked any lts_of is_matrix reflexive_below transitive_below transitive_at transitive_pair start_rules input_rules pair_rules bit in_matrix write_rules any_below sum_below count_below lowest restrict all_states any_state all_actions into answered round refuted_at refutation_round refuted_count strategy_length
not_none p =
    let v = ap (λ (r : Reply). r.values) (p.answers refl).replied in
    let z : ◌≡◌ {A = ℕ} 0 3 = cc in
    omega arith

not-unwritten : WritePromise entries_of 4 F3 all 2 0 (blank []) (given (3 ∷ [])) (blank []) → ⊥
unfolding number_at header_of labels_length labels_fit state_record_at transition_record_at state_record transition_record in_range state_fits transition_fits all_below states_fit transitions_fit walk chain concat_below reached member list_below on_some_chain all_reached indices occurrences named_twice none_twice distinct successor successors_fit headed_rules sheet_rules broken checked any lts_of is_matrix reflexive_below transitive_below transitive_at transitive_pair start_rules input_rules pair_rules bit in_matrix write_rules any_below sum_below count_below lowest restrict all_states any_state all_actions into answered round refuted_at refutation_round refuted_count strategy_length check_rules check_call holds sound all_sound accepted last_of entries_of
not-unwritten p = let z : ◌≡◌ {A = ℕ} 14 0 = ap (λ (r : Reply). r.refusal) (p.answers refl).accepted in omega arith

-- 13 for the dropped (2, 0), with whatever buffer
not-kept : (plan₀ plan : List ℕ) → WritePromise entries_of 4 F3 all 2 0 plan₀ (refused StillRelated) plan → ⊥
unfolding number_at header_of labels_length labels_fit state_record_at transition_record_at state_record transition_record in_range state_fits transition_fits all_below states_fit transitions_fit walk chain concat_below reached member list_below on_some_chain all_reached indices occurrences named_twice none_twice distinct successor successors_fit headed_rules sheet_rules broken checked any lts_of is_matrix reflexive_below transitive_below transitive_at transitive_pair start_rules input_rules pair_rules bit in_matrix any_below sum_below count_below passing lowest restrict all_states any_state all_actions into run step step_of each_action chosen pending is_representative representative block coarsest initial refine split prune remove xor
not-kept plan₀ plan p = (p.related refl []).0 refl
