-- The sheets of document 01, plain and named, read and normalised by computing; and wrong outcomes that the promise of normalise refuses.
use Prim.Native.Nat.{ℕ}
use mathlib.Core.Bool.{true, false, false≢true}
use mathlib.Core.List.{List, [], ◌∷◌, ◌++◌, head-eq_of_cons-eq}
use mathlib.Core.Path.{◌≡◌, refl, sym, ap, ◌∙◌, subst}
use native.Mathlib.Omega.{arith}
use lib.ListN.{length, replicate}
use Rattle.lts.specs.Bounded.{all_below, passing, concat_below, list_below, lowest}
use Rattle.lts.specs.declared.Refusal.TheVariants.{Length, Range}
use Rattle.encoding.specs.declared.Header.{Header}
use Rattle.encoding.specs.Records.{number_at, header_of, label_record_at, label_record, state_record_at, transition_record_at, state_record, transition_record, labels_length, two, header_bytes, state_bytes, transition_bytes}
use Rattle.encoding.specs.Labels.{visible, follows, label_fits, label_in, labels_in, labels_fit, Labelling, labels_of, labelling_of, labels_bytes, records_of}
use Rattle.encoding.specs.Encoding.{in_range, state_fits, transition_fits, states_fit, transitions_fit, walk, chain, reached, member, on_some_chain, all_reached, indices, occurrences, named_twice, none_twice, distinct, successor, successors_fit, headed_rules, sheet_rules, read_encoding}
use Rattle.lts.specs.declared.Refusal.{Refusal}
use Rattle.lts.specs.Places.{among, distinct as distinctBy}
use Rattle.lts.specs.Labels.{same_label}
use Rattle.lts.specs.Rule.{Nothing, broken, checked, Reply, refused as Unreadable, given}
use Rattle.lts.proofs.Rule.{numbered, passes}
use Rattle.encoding.specs.Denotation.{any, lts_of}
use Rattle.lts.specs.Transitions.{Transition, transitions_to, transitions_by, transitions_of, transitions_below, transitions}
use Rattle.normal_form.specs.Normal.{first_index, next_index, normal_state, normal_transition, states_bytes, transitions_bytes, sheet_bytes, normal}
use Rattle.normal_form.specs.NormalForm.{before, in_order, IsNormal, NormalForm}
use Rattle.normal_form.specs.Normalise.{normalise_rules, normalise_call, NormalisePromise}
use Rattle.encoding.proofs.Reader.{readable_of}
use Rattle.normal_form.proofs.Encodable.{labelled-header, sheet-encodable}
use Rattle.normal_form.proofs.Laws.{normal-form}
use Rattle.encoding.proofs.Sheets.{state, by, F1, F2, F3, F3-turned, F4, F7, F8, opens, shuts, named, F3-open, F3-open-turned, by-action, by-target, chain-turned}
use Rattle.std.specs.Prelude.{Ok, Err}

abbrev counts : ℕ → ℕ → ℕ → Header
counts n m k = record { states = n; actions = m; transitions = k; named = false }

-- what normalise writes of a sheet
abbrev normal_of : List ℕ → List ℕ
normal_of s = normal (labelling_of s) (lts_of s)

-- ## Reading
reads : (read_encoding F1 ≡ Ok (counts 1 0 0)) × (read_encoding F2 ≡ Ok (counts 2 1 2)) × (read_encoding F3 ≡ Ok (counts 3 1 2))
    × (read_encoding F3-turned ≡ Ok (counts 3 1 2)) × (read_encoding F4 ≡ Ok (counts 4 1 3)) × (read_encoding F7 ≡ Err Range)
    × (read_encoding F8 ≡ Err Length)
    × (read_encoding by-action ≡ Ok (counts 2 2 2)) × (read_encoding by-target ≡ Ok (counts 2 2 2))
    × (read_encoding chain-turned ≡ Ok (counts 2 2 2))
unfolding number_at header_of state_record_at transition_record_at state_record transition_record labels_length labels_fit in_range state_fits transition_fits all_below states_fit transitions_fit walk chain concat_below reached member list_below lowest on_some_chain all_reached indices occurrences named_twice none_twice distinct successor successors_fit headed_rules sheet_rules broken checked read_encoding
reads = (refl, refl, refl, refl, refl, refl, refl, refl, refl, refl)

-- the ranges of n, m and k
limits : (in_range (counts 1 0 0) ≡ true) × (in_range (counts 256 64 1024) ≡ true) × (in_range (counts 0 64 1024) ≡ false)
    × (in_range (counts 257 64 1024) ≡ false) × (in_range (counts 256 65 1024) ≡ false) × (in_range (counts 256 64 1025) ≡ false)
unfolding in_range
limits = (refl, refl, refl, refl, refl, refl)

-- ## The normal form
normals : (normal_of F3 ≡ F3) × (normal_of F3-turned ≡ F3) × (normal_of by-action ≡ by-action)
    × (normal_of by-target ≡ by-action) × (normal_of chain-turned ≡ by-action)
unfolding number_at header_of state_record_at transition_record_at state_record transition_record labels_length walk chain any lts_of passing concat_below transitions_to transitions_by transitions_of transitions_below transitions two header_bytes state_bytes transition_bytes first_index next_index normal_state normal_transition states_bytes transitions_bytes sheet_bytes records_of normal
normals = (refl, refl, refl, refl, refl)

-- in normal form, and not: by `ordered` the one, by `consecutive` the others
are-normal : IsNormal F3 (counts 3 1 2) × IsNormal by-action (counts 2 2 2)
unfolding number_at state_record_at transition_record_at state_record transition_record labels_length walk chain concat_below reached all_below list_below before in_order
are-normal = (record { consecutive = refl; ordered = refl }, record { consecutive = refl; ordered = refl })

turned : ◌≡◌ {A = List ℕ} (2 ∷ 1 ∷ []) (1 ∷ 2 ∷ []) → ⊥
turned e = let z : ◌≡◌ {A = ℕ} 2 1 = head-eq_of_cons-eq e in omega (arith, z)

not-normal : (IsNormal by-target (counts 2 2 2) → ⊥) × (IsNormal chain-turned (counts 2 2 2) → ⊥) × (IsNormal F3-turned (counts 3 1 2) → ⊥)
unfolding number_at state_record_at transition_record_at state_record transition_record labels_length walk chain concat_below reached all_below list_below before in_order
not-normal = (λ n. false≢true n.ordered, λ n. turned n.consecutive, λ n. turned n.consecutive)

-- so that records by target, then action, are refused as a normal form, though they are read and denote the same Lts
form : (s : List ℕ) {h : Header} → read_encoding s ≡ Ok h → NormalForm (labelling_of s) (lts_of s) (normal_of s)
form s e = normal-form (labelling_of s) (lts_of s) (sheet-encodable (readable_of e))

same-lts : lts_of by-target ≡ lts_of by-action
same-lts = sym (form by-target reads.8).same ∙ ap lts_of (normals.3 ∙ sym normals.2) ∙ (form by-action reads.7).same

refused : NormalForm (labelling_of by-action) (lts_of by-action) by-target → ⊥
refused f = not-normal.0 (subst (IsNormal by-target) (labelled-header (readable_of reads.7)) f.normal)

-- ## Wrong outcomes that the promise refuses
blank : List ℕ
blank = replicate (length by-action) 0

rules-kept : broken (normalise_rules by-action blank) ≡ Nothing
unfolding blank number_at header_of state_record_at transition_record_at state_record transition_record labels_length labels_fit in_range state_fits transition_fits all_below states_fit transitions_fit walk chain concat_below reached member list_below lowest on_some_chain all_reached indices occurrences named_twice none_twice distinct successor successors_fit headed_rules sheet_rules normalise_rules broken
rules-kept = refl

-- records in another order; nothing written; a refusal of what keeps the rules
not-by-target : (reply : Reply) → NormalisePromise by-action blank reply by-target → ⊥
not-by-target reply p = refused (p.answers rules-kept).3

blank-refused : read_encoding blank ≡ Err Range
unfolding blank number_at header_of labels_length in_range headed_rules sheet_rules broken checked read_encoding
blank-refused = refl

not-nothing : (reply : Reply) → NormalisePromise by-action blank reply blank → ⊥
not-nothing reply p = let e = sym blank-refused ∙ (p.answers rules-kept).3.reads in let z : ◌≡◌ {A = ℕ} 0 1 = cc in omega (arith, z)

not-refused : (r : Refusal) (out : List ℕ) → NormalisePromise by-action blank (Unreadable r) out → ⊥
not-refused r out p = numbered r (sym (ap (λ (x : Reply). x.refusal) (p.answers rules-kept).0))

-- ## Named sheets
-- one sheet with two names, in either order
abbrev two-names : List ℕ
two-names = named 2 2 2 (opens ++ shuts) ++ state 1 ++ state 0 ++ by 1 1 2 ++ by 2 0 0

abbrev names-turned : List ℕ
names-turned = named 2 2 2 (shuts ++ opens) ++ state 1 ++ state 0 ++ by 1 1 2 ++ by 2 0 0

empty : List ℕ → List ℕ
empty s = replicate (length s) 0

named-kept : (broken (normalise_rules F3-open-turned (empty F3-open-turned)) ≡ Nothing) × (broken (normalise_rules two-names (empty two-names)) ≡ Nothing)
unfolding empty number_at header_of state_record_at transition_record_at state_record transition_record labels_length label_record_at label_record visible follows label_fits label_in labels_in same_label among distinctBy labels_fit in_range state_fits transition_fits all_below states_fit transitions_fit walk chain concat_below reached member list_below lowest on_some_chain all_reached indices occurrences named_twice none_twice distinct successor successors_fit headed_rules sheet_rules normalise_rules broken
named-kept = (refl, refl)

-- the normal form of a named sheet, and what normalise leaves
named-normals : (normal_of F3-open-turned ≡ F3-open) × (normal_of two-names ≡ two-names)
unfolding number_at header_of state_record_at transition_record_at state_record transition_record labels_length walk chain any lts_of passing concat_below list_below label_record_at label_record label_in labels_in labels_bytes transitions_to transitions_by transitions_of transitions_below transitions two header_bytes state_bytes transition_bytes first_index next_index normal_state normal_transition states_bytes transitions_bytes sheet_bytes records_of normal
named-normals = (refl, refl)

named-call : normalise_call F3-open-turned (empty F3-open-turned) ≡ record { reply = given []; out = F3-open }
unfolding normalise_call
named-call = rw (← named-normals.0) (passes (normalise_rules F3-open-turned (empty F3-open-turned)) _ _ named-kept.0)

-- the kind dropped: a plain sheet
kinds : ((header_of F3-open-turned).named ≡ true) × ((header_of F3).named ≡ false)
unfolding header_of number_at
kinds = (refl, refl)

not_plain : (reply : Reply) (out : List ℕ) → (header_of out).named ≡ false → NormalisePromise F3-open-turned (empty F3-open-turned) reply out → ⊥
not_plain reply out plain p = false≢true (sym plain ∙ ap (λ (K : Labelling). K.named) (p.answers named-kept.0).3.labelling ∙ kinds.0)

not-F3 : (reply : Reply) → NormalisePromise F3-open-turned (empty F3-open-turned) reply F3 → ⊥
not-F3 reply = not_plain reply F3 kinds.1

-- names in another order
first-labels : (labels_of two-names ≡ opens ∷ shuts ∷ []) × (labels_of names-turned ≡ shuts ∷ opens ∷ [])
unfolding header_of number_at label_record_at label_record label_in labels_in list_below
first-labels = (refl, refl)

not-names-turned : (reply : Reply) → NormalisePromise two-names (empty two-names) reply names-turned → ⊥
not-names-turned reply p =
    let e = sym first-labels.1 ∙ ap (λ (K : Labelling). K.labels) (p.answers named-kept.1).3.labelling ∙ first-labels.0 in
    let z : ◌≡◌ {A = ℕ} 115 111 = head-eq_of_cons-eq (head-eq_of_cons-eq e) in
    omega (arith, z)

-- ## The Lts
arc : ℕ → ℕ → Transition
arc p t = record { source = p; action = 1; target = t }

denotes : (transitions (lts_of F1) ≡ []) × (transitions (lts_of F2) ≡ arc 0 1 ∷ arc 1 0 ∷ []) × (transitions (lts_of F3) ≡ arc 0 1 ∷ arc 2 2 ∷ [])
    × (transitions (lts_of F4) ≡ arc 0 1 ∷ arc 1 2 ∷ arc 2 3 ∷ [])
unfolding arc number_at header_of state_record_at transition_record_at state_record transition_record labels_length walk chain any lts_of passing concat_below transitions_to transitions_by transitions_of transitions_below transitions
denotes = (refl, refl, refl, refl)
