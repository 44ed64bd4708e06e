-- Compare computed from the definitions: yes, no, the end mark, the ready form, and the order of the refusals; and replies that the promises
-- refuse.
use Prim.Native.Nat.{ℕ}
use native.Mathlib.Omega.{arith}
use mathlib.Core.Path.{◌≡◌, refl, sym, ap, ◌∙◌}
use mathlib.Core.Logic.{⊎_elim}
use mathlib.Core.Bool.{xor}
use mathlib.Core.List.{List, [], ◌∷◌}
use Rattle.lts.specs.Bounded.{any_below, all_below, sum_below, count_below, passing, concat_below, list_below, lowest, restrict}
use Rattle.lts.specs.System.{Rel, Lts, all_states, any_state, all_actions, any_action, into, termination_preorder}
use Rattle.lts.specs.Refinement.{initial, block, representative, is_representative, pending, remove, split, prune, refine, each_action, step_of, chosen, step, run, coarsest}
use Rattle.lts.specs.Union.{disjoint_union, comparison, simulated}
use Rattle.lts.specs.Ready.{same_actions, ready_preorder}
use Rattle.lts.specs.declared.Refusal.{Refusal}
use Rattle.lts.specs.declared.Refusal.TheVariants.{Length, ReachedTwice}
use Rattle.lts.specs.Refusal.{refusal_number, refusal_record}
use Rattle.lts.specs.Rule.{Nothing, First, broken, checked, Reply, given, refused}
use Rattle.encoding.proofs.Sheets.{F1, F2, open-first, open-second, loop}
use Rattle.encoding.specs.Records.{number_at, header_of, label_record_at, label_record, labels_length, state_record_at, transition_record_at, state_record, transition_record}
use Rattle.encoding.specs.Labels.{visible, follows, label_fits, padded, decimal_label, label_in, labels_in, labels_fit}
use Rattle.report.specs.Decimal.{decimal_in, decimal}
use Rattle.lts.specs.Mapped.{mapped}
use Rattle.lts.specs.Places.{among, place_in, continued}
use Rattle.lts.specs.Places as places
use Rattle.lts.specs.Labels.{same_label, label_of, action_of, joined_labels, joined_action, joined_second}
use Rattle.encoding.specs.Encoding.{in_range, state_fits, states_fit, transition_fits, transitions_fit, walk, chain, reached, member, on_some_chain, all_reached, indices, occurrences, named_twice, none_twice, distinct, successor, successors_fit, headed_rules, sheet_rules}
use Rattle.encoding.specs.Denotation.{any, lts_of}
use Rattle.inputs.specs.Both.{fits, joint_rules, both_rules}
use Rattle.comparison.specs.Call.{compare_call, Relates, ComparePromise, CompareReadyPromise}
use Rattle.comparison.proofs.Promise.{promised, end-compares, ready-compares}

abbrev ended : List ℕ
ended = 1 ∷ 0 ∷ 0 ∷ 0 ∷ 0 ∷ 0 ∷ 1 ∷ 0 ∷ 0 ∷ 0 ∷ []

abbrev once : List ℕ
once = 2 ∷ 0 ∷ 1 ∷ 0 ∷ 1 ∷ 0 ∷ 0 ∷ 0 ∷ 1 ∷ 0 ∷ 0 ∷ 0 ∷ 0 ∷ 0 ∷ 1 ∷ 0 ∷ 1 ∷ 0 ∷ 0 ∷ 0 ∷ []

abbrev cyclic : List ℕ
cyclic = 1 ∷ 0 ∷ 1 ∷ 0 ∷ 1 ∷ 0 ∷ 0 ∷ 0 ∷ 1 ∷ 0 ∷ 1 ∷ 0 ∷ 0 ∷ 0 ∷ 1 ∷ 0 ∷ []

-- the turns are those that are made for the pair of sheets; the first sheet's refusal comes before the second's
cases : (compare_call termination_preorder F1 F1 ≡ given (1 ∷ 0 ∷ [])) × (compare_call termination_preorder ended F1 ≡ given (0 ∷ 1 ∷ []))
    × (compare_call termination_preorder once F2 ≡ given (1 ∷ 2 ∷ [])) × (compare_call termination_preorder F2 once ≡ given (0 ∷ 2 ∷ []))
    × (compare_call termination_preorder cyclic [] ≡ refused (ReachedTwice 1)) × (compare_call termination_preorder [] cyclic ≡ refused Length) × (compare_call termination_preorder F1 cyclic ≡ refused (ReachedTwice 1))
unfolding xor any_below all_below sum_below count_below passing concat_below list_below lowest restrict all_states any_state all_actions into termination_preorder initial block representative is_representative pending remove split prune refine each_action step_of chosen step run coarsest disjoint_union comparison simulated broken checked number_at header_of labels_length labels_fit state_record_at transition_record_at state_record transition_record in_range state_fits states_fit transition_fits transitions_fit walk chain reached member on_some_chain all_reached indices occurrences named_twice none_twice distinct successor successors_fit headed_rules sheet_rules any lts_of label_in labels_in padded decimal_label decimal decimal_in same_label among place_in continued label_of action_of joined_labels joined_action joined_second mapped any_action fits joint_rules both_rules compare_call
cases = (refl, refl, refl, refl, refl, refl, refl)

-- the ready form: `once` comes to a page without actions, and F2 does not, so that the yes above is a no; matched by name, "open" alone is
-- the same set in both sheets; the refusals are the same
ready-cases : (compare_call ready_preorder F2 F2 ≡ given (1 ∷ 0 ∷ [])) × (compare_call ready_preorder once F2 ≡ given (0 ∷ 4 ∷ []))
    × (compare_call ready_preorder F1 F1 ≡ given (1 ∷ 0 ∷ [])) × (compare_call ready_preorder open-first open-second ≡ given (1 ∷ 0 ∷ []))
    × (compare_call ready_preorder cyclic [] ≡ refused (ReachedTwice 1)) × (compare_call ready_preorder [] cyclic ≡ refused Length)
    × (compare_call ready_preorder F1 cyclic ≡ refused (ReachedTwice 1))
unfolding xor any_below all_below sum_below count_below passing concat_below list_below lowest restrict all_states any_state all_actions into termination_preorder initial block representative is_representative pending remove split prune refine each_action step_of chosen step run coarsest disjoint_union comparison simulated broken checked number_at header_of labels_length labels_fit state_record_at transition_record_at state_record transition_record in_range state_fits states_fit transition_fits transitions_fit walk chain reached member on_some_chain all_reached indices occurrences named_twice none_twice distinct places.distinct successor successors_fit headed_rules sheet_rules any lts_of label_in labels_in padded decimal_label decimal decimal_in same_label among place_in continued label_of action_of joined_labels joined_action joined_second mapped any_action fits joint_rules both_rules compare_call label_record_at label_record visible follows label_fits same_actions ready_preorder
ready-cases = (refl, refl, refl, refl, refl, refl, refl)

-- by name each simulates the other; a plain sheet's action 1 is named "1", and no "open"
named-cases : (compare_call termination_preorder open-first open-second ≡ given (1 ∷ 0 ∷ [])) × (compare_call termination_preorder open-second open-first ≡ given (1 ∷ 0 ∷ []))
    × (compare_call termination_preorder loop open-first ≡ given (0 ∷ 2 ∷ []))
    × (broken (both_rules open-first open-second) ≡ Nothing)
unfolding xor any_below all_below sum_below count_below passing concat_below list_below lowest restrict all_states any_state all_actions into termination_preorder initial block representative is_representative pending remove split prune refine each_action step_of chosen step run coarsest disjoint_union comparison simulated broken checked number_at header_of labels_length labels_fit state_record_at transition_record_at state_record transition_record in_range state_fits states_fit transition_fits transitions_fit walk chain reached member on_some_chain all_reached indices occurrences named_twice none_twice distinct places.distinct successor successors_fit headed_rules sheet_rules any lts_of label_in labels_in padded decimal_label decimal decimal_in same_label among place_in continued label_of action_of joined_labels joined_action joined_second mapped any_action fits joint_rules both_rules compare_call label_record_at label_record visible follows label_fits
named-cases = (refl, refl, refl, refl)

-- of sheets that keep the rules, the promise allows one reply alone
one-reply : {start : Lts → Rel} {Relating : Lts → ℕ → Rel → Type 0} (first second : List ℕ) {a b : Reply} → broken (both_rules first second) ≡ Nothing
    → ComparePromise start Relating first second a → ComparePromise start Relating first second b → a.values ≡ b.values
one-reply first second e p q = ap (λ (r : Reply). r.values)
    (⊎_elim (λ x. ⊎_elim (λ y. x.0 ∙ sym y.0) (λ y. absurd (y.1 x.1)) (q.answers e))
    (λ x. ⊎_elim (λ y. absurd (x.1 y.1)) (λ y. x.0 ∙ sym y.0) (q.answers e)) (p.answers e))

-- so it refuses a constant yes, a constant no, and turns that are not made, on sheets where the answer is another
kept : (broken (both_rules F2 once) ≡ Nothing) × (broken (both_rules once F2) ≡ Nothing)
unfolding all_below concat_below broken number_at header_of labels_length labels_fit state_record_at transition_record_at state_record transition_record in_range state_fits states_fit transition_fits transitions_fit walk chain reached member list_below lowest on_some_chain all_reached indices occurrences named_twice none_twice distinct successor successors_fit headed_rules sheet_rules label_in labels_in padded decimal_label decimal decimal_in same_label among continued joined_labels fits joint_rules both_rules
kept = (refl, refl)

not-always-yes : (turns : ℕ) → ComparePromise termination_preorder Relates F2 once (given (1 ∷ turns ∷ [])) → ⊥
not-always-yes turns p =
    let e = one-reply F2 once kept.0 p (promised end-compares F2 once cases.3) in
    let z : ◌≡◌ {A = ℕ} 1 0 = cc in omega arith

not-always-no : (turns : ℕ) → ComparePromise termination_preorder Relates once F2 (given (0 ∷ turns ∷ [])) → ⊥
not-always-no turns p =
    let e = one-reply once F2 kept.1 p (promised end-compares once F2 cases.2) in
    let z : ◌≡◌ {A = ℕ} 0 1 = cc in omega arith

not-other-turns : ComparePromise termination_preorder Relates F2 once (given (0 ∷ 3 ∷ [])) → ⊥
not-other-turns p =
    let e = one-reply F2 once kept.0 p (promised end-compares F2 once cases.3) in
    let z : ◌≡◌ {A = ℕ} 3 2 = cc in omega arith

-- nor does it let the right refusal pass with another record
not-other-record : (first second : List ℕ) (r : Refusal) (k : ℕ) → broken (both_rules first second) ≡ First r → (k ≡ refusal_record r → ⊥)
    → ComparePromise termination_preorder Relates first second (record { refusal = refusal_number r; record_number = k; values = [] }) → ⊥
not-other-record first second r k e other p = other (ap (λ (x : Reply). x.record_number) (p.refuses r e))

-- nor a no where matching by name gives a yes, as matching by number would
not-by-number : (turns : ℕ) → ComparePromise termination_preorder Relates open-first open-second (given (0 ∷ turns ∷ [])) → ⊥
not-by-number turns p =
    let e = one-reply open-first open-second named-cases.3 p (promised end-compares open-first open-second named-cases.0) in
    let z : ◌≡◌ {A = ℕ} 0 1 = cc in omega arith

-- ## The ready form
-- the promise refuses the older form's reply, and a constant no
ready-rules : (broken (both_rules once F2) ≡ Nothing) × (broken (both_rules F2 F2) ≡ Nothing)
unfolding all_below concat_below broken number_at header_of labels_length labels_fit state_record_at transition_record_at state_record transition_record in_range state_fits states_fit transition_fits transitions_fit walk chain reached member list_below lowest on_some_chain all_reached indices occurrences named_twice none_twice distinct successor successors_fit headed_rules sheet_rules label_in labels_in padded decimal_label decimal decimal_in same_label among continued joined_labels fits joint_rules both_rules
ready-rules = (refl, refl)

not-older-form : (turns : ℕ) → CompareReadyPromise once F2 (given (1 ∷ turns ∷ [])) → ⊥
not-older-form turns p =
    let e = one-reply once F2 ready-rules.0 p.compared (promised ready-compares once F2 ready-cases.1) in
    let z : ◌≡◌ {A = ℕ} 1 0 = cc in omega arith

not-ready-no : (turns : ℕ) → CompareReadyPromise F2 F2 (given (0 ∷ turns ∷ [])) → ⊥
not-ready-no turns p =
    let e = one-reply F2 F2 ready-rules.1 p.compared (promised ready-compares F2 F2 ready-cases.0) in
    let z : ◌≡◌ {A = ℕ} 0 1 = cc in omega arith
