-- Sheets converted by computing: there and back, copies, refusals; and wrong outcomes that the promises refuse.
use Prim.Native.Nat.{ℕ, ◌+◌}
use native.Mathlib.Omega.{arith}
use mathlib.Core.Path.{◌≡◌, refl, sym, ap, ◌∙◌}
use mathlib.Core.Bool.{true}
use mathlib.Core.List.{List, [], ◌∷◌, ◌++◌}
use borrow.Author.Tests.{ltb-true}
use lib.Dec.{ltb}
use lib.ListN.{length, get_or, take, replicate}
use Rattle.lts.specs.Bounded.{all_below, concat_below, list_below, lowest}
use Rattle.lts.specs.Places.{among, distinct as distinctBy}
use Rattle.lts.specs.Labels.{same_label}
use Rattle.lts.specs.declared.Refusal.TheVariants.{Length, Label, NotDecimal, Buffer}
use Rattle.lts.specs.declared.Refusal.{Refusal}
use Rattle.lts.specs.Rule.{Nothing, broken, checked, Reply, refused, given}
use Rattle.lts.proofs.Below.{all-at}
use Rattle.lts.proofs.Rule.{numbered}
use Rattle.report.specs.Decimal.{decimal_in, decimal}
use Rattle.encoding.specs.Records.{IsBytes, number_at, two, header_of, header_bytes, labels_length, label_record_at, label_record, state_record_at, state_record, transition_record_at, transition_record, system_records}
use Rattle.encoding.specs.Labels.{visible, follows, label_fits, padded, decimal_label, label_in, labels_in, labels_fit, labels_bytes, records_of}
use Rattle.encoding.specs.Encoding.{in_range, state_fits, transition_fits, states_fit, transitions_fit, walk, chain, reached, member, on_some_chain, all_reached, indices, occurrences, named_twice, none_twice, distinct, successor, successors_fit, headed_rules, sheet_rules}
use Rattle.encoding.proofs.Sheets.{state, by, name, opens, named, F1, F3-open, F8, chain-turned}
use Rattle.encoding.proofs.Twins.{Twins}
use Rattle.conversion.specs.Conversion.{in_kind, named_in_decimal, fits, to_named_rules, to_plain_rules, ConversionOutcome, conversion, to_named_call, to_plain_call}
use Rattle.conversion.specs.Conversion.{ToNamedPromise, ToPlainPromise}
use Rattle.conversion.proofs.InKind.{named-twins}
use Rattle.conversion.proofs.Converted.{kind-converted}

-- the name of one digit
abbrev digit : ℕ → List ℕ
digit d = name ((48 + d) ∷ []) 15

-- `chain-turned`, whose chain is not in normal order, with these names
abbrev turned-named : List ℕ → List ℕ
turned-named names = named 2 2 2 names ++ state 2 ++ state 0 ++ by 1 1 0 ++ by 2 0 1

-- a buffer of n bytes
abbrev buffer : ℕ → List ℕ
buffer n = replicate n 7

abbrev written : List ℕ → ConversionOutcome
written out = record { reply = given []; out = out }

-- ## There and back; copies; no actions
there : to_named_call chain-turned (buffer 58) ≡ written (turned-named (digit 1 ++ digit 2))
unfolding number_at header_of state_record_at transition_record_at state_record transition_record label_record_at label_record labels_length visible follows label_fits label_in labels_in labels_fit same_label among distinctBy in_range state_fits transition_fits all_below states_fit transitions_fit walk chain concat_below reached member list_below lowest on_some_chain all_reached indices occurrences named_twice none_twice distinct successor successors_fit headed_rules sheet_rules decimal_in decimal padded decimal_label two header_bytes labels_bytes records_of system_records in_kind named_in_decimal fits to_named_rules to_plain_rules broken checked conversion
there = refl

back : to_plain_call (turned-named (digit 1 ++ digit 2)) (buffer 26) ≡ written chain-turned
unfolding number_at header_of state_record_at transition_record_at state_record transition_record label_record_at label_record labels_length visible follows label_fits label_in labels_in labels_fit same_label among distinctBy in_range state_fits transition_fits all_below states_fit transitions_fit walk chain concat_below reached member list_below lowest on_some_chain all_reached indices occurrences named_twice none_twice distinct successor successors_fit headed_rules sheet_rules decimal_in decimal padded decimal_label two header_bytes labels_bytes records_of system_records in_kind named_in_decimal fits to_named_rules to_plain_rules broken checked conversion
back = refl

copies : (to_named_call F3-open (buffer 46) ≡ written F3-open) × (to_plain_call chain-turned (buffer 26) ≡ written chain-turned)
unfolding number_at header_of state_record_at transition_record_at state_record transition_record label_record_at label_record labels_length visible follows label_fits label_in labels_in labels_fit same_label among distinctBy in_range state_fits transition_fits all_below states_fit transitions_fit walk chain concat_below reached member list_below lowest on_some_chain all_reached indices occurrences named_twice none_twice distinct successor successors_fit headed_rules sheet_rules decimal_in decimal padded decimal_label two header_bytes labels_bytes records_of system_records in_kind named_in_decimal fits to_named_rules to_plain_rules broken checked conversion
copies = (refl, refl)

without-actions : (to_named_call F1 (buffer 10) ≡ written (named 1 0 0 [] ++ state 0)) × (to_plain_call (named 1 0 0 [] ++ state 0) (buffer 10) ≡ written F1)
unfolding number_at header_of state_record_at transition_record_at state_record transition_record label_record_at label_record labels_length visible follows label_fits label_in labels_in labels_fit same_label among distinctBy in_range state_fits transition_fits all_below states_fit transitions_fit walk chain concat_below reached member list_below lowest on_some_chain all_reached indices occurrences named_twice none_twice distinct successor successors_fit headed_rules sheet_rules decimal_in decimal padded decimal_label two header_bytes labels_bytes records_of system_records in_kind named_in_decimal fits to_named_rules to_plain_rules broken checked conversion
without-actions = (refl, refl)

-- ## Refusals, with the buffer as it was
abbrev left : Refusal → List ℕ → ConversionOutcome
left r out = record { reply = refused r; out = out }

-- 19: by the only name, the last one, two that changed places; before the buffer's 15
others : (to_plain_call F3-open (buffer 30) ≡ left NotDecimal (buffer 30))
    × (to_plain_call (turned-named (digit 1 ++ opens)) (buffer 26) ≡ left NotDecimal (buffer 26))
    × (to_plain_call (turned-named (digit 2 ++ digit 1)) (buffer 26) ≡ left NotDecimal (buffer 26))
    × (to_plain_call F3-open (buffer 3) ≡ left NotDecimal (buffer 3))
unfolding number_at header_of state_record_at transition_record_at state_record transition_record label_record_at label_record labels_length visible follows label_fits label_in labels_in labels_fit same_label among distinctBy in_range state_fits transition_fits all_below states_fit transitions_fit walk chain concat_below reached member list_below lowest on_some_chain all_reached indices occurrences named_twice none_twice distinct successor successors_fit headed_rules sheet_rules decimal_in decimal padded decimal_label two header_bytes labels_bytes records_of system_records in_kind named_in_decimal fits to_named_rules to_plain_rules broken checked conversion
others = (refl, refl, refl, refl)

-- the sheet's own refusals come first; 15 for the old length, and for one byte more
before : (to_plain_call F8 (buffer 30) ≡ left Length (buffer 30)) × (to_plain_call (turned-named (opens ++ opens)) (buffer 26) ≡ left Label (buffer 26))
    × (to_named_call chain-turned (buffer 26) ≡ left Buffer (buffer 26)) × (to_named_call chain-turned (buffer 59) ≡ left Buffer (buffer 59))
    × (to_plain_call (turned-named (digit 1 ++ digit 2)) (buffer 58) ≡ left Buffer (buffer 58))
unfolding number_at header_of state_record_at transition_record_at state_record transition_record label_record_at label_record labels_length visible follows label_fits label_in labels_in labels_fit same_label among distinctBy in_range state_fits transition_fits all_below states_fit transitions_fit walk chain concat_below reached member list_below lowest on_some_chain all_reached indices occurrences named_twice none_twice distinct successor successors_fit headed_rules sheet_rules decimal_in decimal padded decimal_label two header_bytes labels_bytes records_of system_records in_kind named_in_decimal fits to_named_rules to_plain_rules broken checked conversion
before = (refl, refl, refl, refl, refl)

-- ## Wrong outcomes that the promises refuse
there-kept : broken (to_named_rules chain-turned (buffer 58)) ≡ Nothing
unfolding number_at header_of state_record_at transition_record_at state_record transition_record label_record_at label_record labels_length visible follows label_fits label_in labels_in labels_fit same_label among distinctBy in_range state_fits transition_fits all_below states_fit transitions_fit walk chain concat_below reached member list_below lowest on_some_chain all_reached indices occurrences named_twice none_twice distinct successor successors_fit headed_rules sheet_rules fits to_named_rules broken
there-kept = refl

-- a normal form
not-normal : (reply : Reply) → ToNamedPromise chain-turned (buffer 58) reply (named 2 2 2 (digit 1 ++ digit 2) ++ state 1 ++ state 0 ++ by 1 1 2 ++ by 2 0 0) → ⊥
unfolding number_at header_of labels_length system_records
not-normal reply p =
    let z : ◌≡◌ {A = ℕ} 1 2 = ap (λ (l : List ℕ). get_or l 2 0) (p.converts.answers there-kept).2.records in omega (arith, z)

-- names from 0
not-from-zero : (reply : Reply) → ToNamedPromise chain-turned (buffer 58) reply (turned-named (digit 0 ++ digit 1)) → ⊥
unfolding number_at header_of label_record_at label_record label_in labels_in list_below decimal_in decimal padded decimal_label
not-from-zero reply p =
    let z : ◌≡◌ {A = ℕ} 48 49 = ap (λ (l : List (List ℕ)). get_or (get_or l 0 []) 0 0) (p.converts.answers there-kept).2.labels in omega (arith, z)

-- a last byte that is not there, or is the buffer's own
not-shorter : (reply : Reply) → ToNamedPromise chain-turned (buffer 58) reply (take 57 (turned-named (digit 1 ++ digit 2))) → ⊥
not-shorter reply p = let z : ◌≡◌ {A = ℕ} 57 58 = (p.converts.answers there-kept).1 in omega (arith, z)

not_last : (reply : Reply) → ToNamedPromise chain-turned (buffer 58) reply (take 57 (turned-named (digit 1 ++ digit 2)) ++ (7 ∷ [])) → ⊥
unfolding number_at header_of labels_length system_records
not_last reply p =
    let z : ◌≡◌ {A = ℕ} 7 0 = ap (λ (l : List ℕ). get_or l 19 0) (p.converts.answers there-kept).2.records in omega (arith, z)

-- a plain sheet copied
not_plain : (reply : Reply) (out : List ℕ) → length out ≡ 26 → ToNamedPromise chain-turned (buffer 58) reply out → ⊥
not_plain reply out e p = let z : ◌≡◌ {A = ℕ} 26 58 = sym e ∙ (p.converts.answers there-kept).1 in omega (arith, z)

-- an answer where the second name is another; a refusal where none is
one-other-kept : broken (sheet_rules (turned-named (digit 1 ++ opens))) ≡ Nothing
unfolding number_at header_of state_record_at transition_record_at state_record transition_record label_record_at label_record labels_length visible follows label_fits label_in labels_in labels_fit same_label among distinctBy in_range state_fits transition_fits all_below states_fit transitions_fit walk chain concat_below reached member list_below lowest on_some_chain all_reached indices occurrences named_twice none_twice distinct successor successors_fit headed_rules sheet_rules broken
one-other-kept = refl

not-first-alone : (out : List ℕ) → ToPlainPromise (turned-named (digit 1 ++ opens)) (buffer 26) (given []) out → ⊥
unfolding number_at header_of label_record_at label_record label_in list_below decimal_in decimal padded decimal_label
not-first-alone out p =
    let other : label_in (turned-named (digit 1 ++ opens)) (header_of (turned-named (digit 1 ++ opens))) 2 ≡ decimal_label 2 → ⊥
    = λ e. let z : ◌≡◌ {A = ℕ} 111 50 = ap (λ (l : List ℕ). get_or l 0 0) e in omega (arith, z) in
    let r = p.carries.1 (one-other-kept, (2, omega arith, omega arith, other)) in
    let z : ◌≡◌ {A = ℕ} 0 19 = ap (λ (x : Reply). x.refusal) r in
    omega (arith, z)

back-kept : broken (to_plain_rules (turned-named (digit 1 ++ digit 2)) (buffer 26)) ≡ Nothing
unfolding number_at header_of state_record_at transition_record_at state_record transition_record label_record_at label_record labels_length visible follows label_fits label_in labels_in labels_fit same_label among distinctBy in_range state_fits transition_fits all_below states_fit transitions_fit walk chain concat_below reached member list_below lowest on_some_chain all_reached indices occurrences named_twice none_twice distinct successor successors_fit headed_rules sheet_rules decimal_in decimal padded decimal_label named_in_decimal fits to_plain_rules broken
back-kept = refl

not-refused : (r : Refusal) (out : List ℕ) → ToPlainPromise (turned-named (digit 1 ++ digit 2)) (buffer 26) (refused r) out → ⊥
not-refused r out p = numbered r (sym (ap (λ (x : Reply). x.refusal) (p.converts.answers back-kept).0))

-- ## The two sheets are twins; with the names in the other order they are not
bytes : IsBytes chain-turned
unfolding all_below
bytes i l = ltb-true _ _ (all-at 26 (λ j. ltb (get_or chain-turned j 0) 256) refl i l)

turned-twins : Twins chain-turned (turned-named (digit 1 ++ digit 2))
unfolding number_at header_of decimal_in decimal padded decimal_label label_in labels_in list_below concat_below two header_bytes labels_bytes labels_length records_of system_records in_kind
turned-twins = named-twins chain-turned refl (omega arith) bytes

not-twins : Twins chain-turned (turned-named (digit 2 ++ digit 1)) → ⊥
unfolding number_at header_of label_record_at label_record list_below decimal_in decimal padded decimal_label
not-twins w = let z : ◌≡◌ {A = ℕ} 50 49 = ap (λ (l : List ℕ). get_or l 0 0) (w.names 1 (omega arith) (omega arith)) in omega (arith, z)

-- ## A refusal of a sheet that can be converted, whatever the rules say
turned-read : broken (sheet_rules chain-turned) ≡ Nothing
unfolding number_at header_of state_record_at transition_record_at state_record transition_record label_record_at label_record labels_length visible follows label_fits label_in labels_in labels_fit same_label among distinctBy in_range state_fits transition_fits all_below states_fit transitions_fit walk chain concat_below reached member list_below lowest on_some_chain all_reached indices occurrences named_twice none_twice distinct successor successors_fit headed_rules sheet_rules broken
turned-read = refl

named-long : length (in_kind true chain-turned) ≡ 58
unfolding number_at header_of decimal_in decimal padded decimal_label label_in labels_in list_below concat_below two header_bytes labels_bytes labels_length records_of system_records in_kind
named-long = refl

not-undue : (r : Refusal) (out : List ℕ) → ToNamedPromise chain-turned (buffer 58) (refused r) out → ⊥
not-undue r out p =
    let c = kind-converted true chain-turned turned-read bytes (λ z. cc) in
    numbered r (sym (ap (λ (x : Reply). x.refusal) (p.converts.whole (in_kind true chain-turned) turned-read c (sym named-long))))
