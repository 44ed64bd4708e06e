-- Join computed from the definitions: the sheet that is written, what is past it, and the order of the refusals; and outcomes that the
-- promise refuses.
use Prim.Native.Nat.{ℕ}
use native.Mathlib.Omega.{arith}
use mathlib.Core.Path.{◌≡◌, refl, sym, ap, ap₂, ◌∙◌}
use mathlib.Core.List.{List, [], ◌∷◌, ◌++◌}
use lib.ListN.{length, get_or, take, drop, replicate, take-append-drop}
use lib.Seq.{length-take-le}
use Rattle.lts.specs.Bounded.{any_below, all_below, passing, concat_below, list_below, lowest}
use Rattle.lts.specs.Transitions.{transitions_to, transitions_by, transitions_of, transitions_below, transitions}
use Rattle.lts.specs.Union.{disjoint_union}
use Rattle.lts.specs.declared.Refusal.TheVariants.{Length, ReachedTwice, Buffer}
use Rattle.lts.specs.Rule.{Nothing, broken, checked, Reply, given, refused}
use Rattle.lts.proofs.Rule.{passes}
use Rattle.encoding.proofs.Sheets.{header, state, by, F1, endless, by-target, opens, shuts, name, named, open-first, open-second, loop}
use Rattle.encoding.specs.Records.{number_at, header_of, label_record_at, label_record, labels_length, state_record_at, transition_record_at, state_record, transition_record, two, header_bytes, state_bytes, transition_bytes}
use Rattle.encoding.specs.Labels.{visible, follows, label_fits, padded, decimal_label, label_in, labels_in, labels_fit, labels_bytes, records_of}
use Rattle.report.specs.Decimal.{decimal_in, decimal}
use Rattle.lts.specs.System.{any_state, any_action, into}
use Rattle.lts.specs.Mapped.{mapped}
use Rattle.lts.specs.Places.{among, place_in, continued}
use Rattle.lts.specs.Places as places
use Rattle.lts.specs.Labels.{same_label, label_of, action_of, joined_labels, joined_action, joined_second}
use Rattle.encoding.specs.Encoding.{in_range, state_fits, states_fit, transition_fits, transitions_fit, walk, chain, reached, member, on_some_chain, all_reached, indices, occurrences, named_twice, none_twice, distinct, successor, successors_fit, headed_rules, sheet_rules}
use Rattle.encoding.specs.Denotation.{any, lts_of}
use Rattle.inputs.specs.Both.{fits, joint_rules, both_rules}
use Rattle.normal_form.specs.Normal.{first_index, next_index, normal_state, normal_transition, states_bytes, transitions_bytes, sheet_bytes, normal}
use Rattle.disjoint_union.specs.Join.{JoinOutcome, joined_labelling, joined_sheet, join_rules, join_call, JoinPromise}
use Rattle.disjoint_union.proofs.Promise.{sheet-normal}

-- a buffer of n bytes, each 9
abbrev filled : ℕ → List ℕ
filled n = replicate n 9

-- one state, two actions and no transition
abbrev wide : List ℕ
wide = header 1 2 0 ++ state 0

abbrev outcome : List ℕ → List ℕ → JoinOutcome
outcome values out = record { reply = given values; out = out }

-- F1 and by-target joined: the second's transitions leave state 1, for the targets 2 and 1
abbrev joined : List ℕ
joined = header 3 2 2 ++ state 0 ++ state 1 ++ state 0 ++ by 1 2 2 ++ by 2 1 0

cases : (join_call F1 F1 (filled 14) ≡ outcome (14 ∷ []) (header 2 0 0 ++ state 0 ++ state 0))
    × (join_call F1 by-target (filled 30) ≡ outcome (30 ∷ []) joined)
    × (join_call F1 by-target (filled 32) ≡ outcome (30 ∷ []) (joined ++ filled 2))
    × (join_call F1 wide (filled 14) ≡ outcome (14 ∷ []) (header 2 2 0 ++ state 0 ++ state 0))
    × (join_call F1 F1 (filled 13) ≡ record { reply = refused Buffer; out = filled 13 })
    × (join_call F1 endless [] ≡ record { reply = refused (ReachedTwice 1); out = [] })
    × (join_call [] endless [] ≡ record { reply = refused Length; out = [] })
    × (broken (join_rules F1 by-target (filled 30)) ≡ Nothing) × (broken (join_rules F1 wide (filled 14)) ≡ Nothing)
unfolding any_below all_below passing concat_below transitions_to transitions_by transitions_of transitions_below transitions disjoint_union broken checked number_at header_of labels_length labels_fit state_record_at transition_record_at state_record transition_record two header_bytes state_bytes transition_bytes in_range state_fits states_fit transition_fits transitions_fit walk chain reached member list_below lowest on_some_chain all_reached indices occurrences named_twice none_twice distinct successor successors_fit headed_rules sheet_rules any lts_of label_record_at label_record visible follows label_fits label_in labels_in labels_bytes padded decimal_label decimal decimal_in same_label among place_in continued places.distinct label_of action_of joined_labels joined_action joined_second mapped any_state any_action into joined_labelling fits joint_rules both_rules first_index next_index normal_state normal_transition states_bytes transitions_bytes sheet_bytes records_of normal join_rules join_call
cases = (refl, refl, refl, refl, refl, refl, refl, refl, refl)

-- the joined sheet has the first's names, then the second's new one, and both pages open by action 1; of a plain and a named sheet it is named
abbrev both-open : List ℕ
both-open = named 2 2 2 (opens ++ shuts) ++ state 1 ++ state 2 ++ by 1 0 0 ++ by 1 1 0

named-cases : (join_call open-first open-second (filled 58) ≡ outcome (58 ∷ []) both-open)
    × (join_call loop open-first (filled 58) ≡ outcome (58 ∷ [])
    (named 2 2 2 (name (49 ∷ []) 15 ++ opens) ++ state 1 ++ state 2 ++ by 1 0 0 ++ by 2 1 0))
    × (join_call open-first open-second (filled 57) ≡ record { reply = refused Buffer; out = filled 57 })
    × (broken (join_rules open-first open-second (filled 58)) ≡ Nothing)
unfolding any_below all_below passing concat_below transitions_to transitions_by transitions_of transitions_below transitions disjoint_union broken checked number_at header_of labels_length labels_fit state_record_at transition_record_at state_record transition_record two header_bytes state_bytes transition_bytes in_range state_fits states_fit transition_fits transitions_fit walk chain reached member list_below lowest on_some_chain all_reached indices occurrences named_twice none_twice distinct successor successors_fit headed_rules sheet_rules any lts_of label_record_at label_record visible follows label_fits label_in labels_in labels_bytes padded decimal_label decimal decimal_in same_label among place_in continued places.distinct label_of action_of joined_labels joined_action joined_second mapped any_state any_action into joined_labelling fits joint_rules both_rules first_index next_index normal_state normal_transition states_bytes transitions_bytes sheet_bytes records_of normal join_rules join_call
named-cases = (refl, refl, refl, refl)

-- of sheets that keep the rules, the promise allows one outcome alone
one-outcome : (first second out₀ : List ℕ) {reply : Reply} {out : List ℕ} → broken (join_rules first second out₀) ≡ Nothing
    → JoinPromise first second out₀ reply out → join_call first second out₀ ≡ record { reply = reply; out = out }
unfolding join_call
one-outcome first second out₀ {reply} {out} e p =
    let len = (p.answers e).0 in
    let j = (p.answers e).1 in
    let bytes = joined_sheet first second in
    let w = j.written in
    let front : take len out ≡ bytes = (sheet-normal first second out₀ e).only (take len out) _ w.bytes w.reads w.normal w.labelling w.same in
    let size : len ≡ length bytes = sym (length-take-le len out j.room) ∙ ap length front in
    let all : out ≡ bytes ++ drop (length bytes) out₀ =
    sym (take-append-drop len out) ∙ ap₂ (λ (x y : List ℕ). x ++ y) front (j.stays ∙ ap (λ (i : ℕ). drop i out₀) size) in
    passes (join_rules first second out₀) _ _ e
    ∙ sym (ap₂ (λ (x : Reply) (y : List ℕ). record { reply = x; out = y }) (j.replied ∙ ap (λ (i : ℕ). given (i ∷ [])) size) all)

-- byte i of the buffer that the promise allows
byte : (first second out₀ : List ℕ) (i : ℕ) {reply right : Reply} {out good : List ℕ} → broken (join_rules first second out₀) ≡ Nothing
    → join_call first second out₀ ≡ record { reply = right; out = good } → JoinPromise first second out₀ reply out → get_or good i 0 ≡ get_or out i 0
byte first second out₀ i e c p = ap (λ (o : JoinOutcome). get_or o.out i 0) (sym c ∙ one-outcome first second out₀ e p)

-- so it refuses the second sheet's states first; the second's targets as they are in its own sheet; the first's number of actions; the
-- records in the order of the second's chain
not-swapped : (reply : Reply) → JoinPromise F1 by-target (filled 30) reply (header 3 2 2 ++ state 1 ++ state 0 ++ state 0 ++ by 1 1 2 ++ by 2 0 0) → ⊥
not-swapped reply p = let z : ◌≡◌ {A = ℕ} 0 1 = byte F1 by-target (filled 30) 8 cases.7 cases.1 p in omega (arith, z)

not-unraised : (reply : Reply) → JoinPromise F1 by-target (filled 30) reply (header 3 2 2 ++ state 0 ++ state 1 ++ state 0 ++ by 1 1 2 ++ by 2 0 0) → ⊥
not-unraised reply p = let z : ◌≡◌ {A = ℕ} 2 1 = byte F1 by-target (filled 30) 20 cases.7 cases.1 p in omega (arith, z)

not-first-actions : (reply : Reply) → JoinPromise F1 wide (filled 14) reply (header 2 0 0 ++ state 0 ++ state 0) → ⊥
not-first-actions reply p = let z : ◌≡◌ {A = ℕ} 2 0 = byte F1 wide (filled 14) 2 cases.8 cases.3 p in omega (arith, z)

not-chain-order : (reply : Reply) → JoinPromise F1 by-target (filled 30) reply (header 3 2 2 ++ state 0 ++ state 1 ++ state 0 ++ by 2 1 2 ++ by 1 2 0) → ⊥
not-chain-order reply p = let z : ◌≡◌ {A = ℕ} 1 2 = byte F1 by-target (filled 30) 18 cases.7 cases.1 p in omega (arith, z)

-- nor new names before the first's, actions matched by number, or the joined flow of named sheets as a plain one
not-new-first : (reply : Reply) → JoinPromise open-first open-second (filled 58) reply
    (named 2 2 2 (shuts ++ opens) ++ state 1 ++ state 2 ++ by 2 0 0 ++ by 2 1 0) → ⊥
not-new-first reply p = let z : ◌≡◌ {A = ℕ} 111 115 = byte open-first open-second (filled 58) 6 named-cases.3 named-cases.0 p in omega (arith, z)

not-by-number : (reply : Reply) → JoinPromise open-first open-second (filled 58) reply
    (named 2 2 2 (opens ++ shuts) ++ state 1 ++ state 2 ++ by 1 0 0 ++ by 2 1 0) → ⊥
not-by-number reply p = let z : ◌≡◌ {A = ℕ} 1 2 = byte open-first open-second (filled 58) 52 named-cases.3 named-cases.0 p in omega (arith, z)

not_plain : (reply : Reply) → JoinPromise open-first open-second (filled 58) reply (header 2 2 2 ++ state 1 ++ state 2 ++ by 1 0 0 ++ by 1 1 0 ++ filled 32) → ⊥
not_plain reply p = let z : ◌≡◌ {A = ℕ} 128 0 = byte open-first open-second (filled 58) 1 named-cases.3 named-cases.0 p in omega (arith, z)
