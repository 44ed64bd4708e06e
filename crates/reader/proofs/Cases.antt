-- Reading sheets with bad names, and with a record on no chain or reached twice, computed; and replies that the promise of read refuses.
use Prim.Native.Nat.{ℕ, suc, ◌≤◌, ◌<◌}
use mathlib.Core.Path.{◌≡◌, refl, sym}
use mathlib.Core.Logic.{inr, ⊎_elim}
use mathlib.Core.Bool.{true, false}
use mathlib.Core.List.{List, [], ◌∷◌, ◌++◌}
use native.Mathlib.Omega.{arith}
use lib.ListN.{replicate}
use Rattle.lts.specs.declared.Refusal.{Refusal}
use Rattle.lts.specs.declared.Refusal.TheVariants.{Length, Label, Unreached, ReachedTwice}
use Rattle.lts.specs.Bounded.{all_below, concat_below, list_below, lowest}
use Rattle.lts.specs.Rule.{Reply, broken, checked, refused}
use Rattle.lts.specs.Places.{among, distinct as labelsDistinct}
use Rattle.lts.specs.Labels.{same_label}
use Rattle.lts.proofs.Below.{clash, lt-or-ge}
use Rattle.encoding.specs.Records.{number_at, header_of, labels_length, label_record_at, state_record_at, transition_record_at, label_record, state_record, transition_record}
use Rattle.encoding.specs.Labels.{visible, follows, label_fits, label_in, labels_in, labels_fit}
use Rattle.encoding.specs.Encoding.{in_range, state_fits, transition_fits, states_fit, transitions_fit, walk, chain, reached, member, on_some_chain, all_reached, indices, occurrences, named_twice, none_twice, distinct, successor, successors_fit, headed_rules, sheet_rules, read_encoding}
use Rattle.encoding.specs.Read.{reading_reply, counted, Misnamed, bad, repeated, WellNamed, ReadPromise}
use Rattle.encoding.proofs.Sheets.{state, F9, endless, lone, cycle, gaps, both, shared, joining, doubled, name, opens, named, F3-named, F3-open}
use Rattle.reader.proofs.Promise.{read-promised}
use Rattle.std.specs.Prelude.{Ok, Err}

-- ## Named sheets
-- good names: "open"; the shortest and the longest, hexadecimal 21 and 7E; none, so that there are no moves
abbrev F3-long : List ℕ
F3-long = F3-named 2 (name (33 ∷ []) 15 ++ replicate 16 126)

abbrev no_names : List ℕ
no_names = named 1 0 0 [] ++ state 0

-- bad ones: an empty name; "o" and a byte after a zero; bytes 7F and 20; the same name twice
abbrev empty_name : List ℕ
empty_name = F3-named 1 (replicate 16 0)

abbrev after-zero : List ℕ
after-zero = F3-named 1 (name (111 ∷ 0 ∷ 112 ∷ []) 13)

abbrev too-high : List ℕ
too-high = F3-named 1 (name (111 ∷ 127 ∷ []) 14)

abbrev too-low : List ℕ
too-low = F3-named 1 (name (111 ∷ 32 ∷ []) 14)

abbrev repeated-name : List ℕ
repeated-name = F3-named 2 (opens ++ opens)

-- an empty name, with a bad state record, and with one byte more
abbrev before-records : List ℕ
before-records = named 1 1 0 (replicate 16 0) ++ (2 ∷ 0 ∷ 0 ∷ 0 ∷ [])

abbrev after-length : List ℕ
after-length = empty_name ++ (0 ∷ [])

-- ## What reading them, and sheets with bad chains, answers
pub record Readings : Type 0 where
  pub opened : read_encoding F3-open ≡ Ok (record { states = 3; actions = 1; transitions = 2; named = true })
  pub longest : read_encoding F3-long ≡ Ok (record { states = 3; actions = 2; transitions = 2; named = true })
  pub nameless : read_encoding no_names ≡ Ok (record { states = 1; actions = 0; transitions = 0; named = true })
  pub empty : read_encoding empty_name ≡ Err Label
  pub after_zero : read_encoding after-zero ≡ Err Label
  pub too_high : read_encoding too-high ≡ Err Label
  pub too_low : read_encoding too-low ≡ Err Label
  pub repeated_name : read_encoding repeated-name ≡ Err Label
  -- 17 before 3, and after the length
  pub before_records : read_encoding before-records ≡ Err Label
  pub after_length : read_encoding after-length ≡ Err Length
  -- a record that names itself, in F9, reached and not; a cycle that no state reaches; the lowest of two on no chain; both faults
  pub f9 : read_encoding F9 ≡ Err (ReachedTwice 1)
  pub itself : read_encoding endless ≡ Err (ReachedTwice 1)
  pub alone : read_encoding lone ≡ Err (Unreached 1)
  pub in_cycle : read_encoding cycle ≡ Err (Unreached 1)
  pub lowest_gap : read_encoding gaps ≡ Err (Unreached 1)
  pub both_faults : read_encoding both ≡ Err (Unreached 2)
  -- a record that two states name; one that a state and a record name; the lowest of two that are named twice
  pub by_states : read_encoding shared ≡ Err (ReachedTwice 2)
  pub by_record : read_encoding joining ≡ Err (ReachedTwice 2)
  pub lowest_twice : read_encoding doubled ≡ Err (ReachedTwice 1)

pub readings : Readings
unfolding number_at header_of labels_length label_record_at state_record_at transition_record_at label_record state_record transition_record in_range visible follows
    label_fits label_in labels_in same_label among labelsDistinct labels_fit state_fits transition_fits all_below list_below lowest states_fit transitions_fit walk
    chain concat_below reached member on_some_chain all_reached indices occurrences named_twice none_twice distinct successor successors_fit headed_rules sheet_rules
    broken checked read_encoding
readings = record {
  opened = refl;
  longest = refl;
  nameless = refl;
  empty = refl;
  after_zero = refl;
  too_high = refl;
  too_low = refl;
  repeated_name = refl;
  before_records = refl;
  after_length = refl;
  f9 = refl;
  itself = refl;
  alone = refl;
  in_cycle = refl;
  lowest_gap = refl;
  both_faults = refl;
  by_states = refl;
  by_record = refl;
  lowest_twice = refl;
}

-- so this is promised of the refusal
so : (s : List ℕ) {r : Refusal} → read_encoding s ≡ Err r → ReadPromise s (refused r)
unfolding reading_reply
so s e = read-promised s (sym e)

-- ## Names: what the promise refuses
well : {s : List ℕ} {reply : Reply} → ReadPromise s reply → reply.refusal ≡ 0 → (header_of s).named ≡ true → WellNamed s (header_of s)
well p e n = p.named (λ z. omega (arith, z, e)) (λ z. omega (arith, z, e)) (λ z. omega (arith, z, e)) n

-- a byte after a zero, and a repeated name, that are read
not-after-zero : (reply : Reply) → reply.refusal ≡ 0 → ReadPromise after-zero reply → ⊥
unfolding number_at header_of label_record_at label_record list_below
not-after-zero reply e p =
    let x = (well p e refl).each 0 (omega arith) in
    ⊎_elim (λ (l : 1 < x.size). let z = (x.name 1 l).0 in omega (arith, z)) (λ (l : x.size ≤ 1). let z = x.zeros 2 (omega (arith, l)) in omega (arith, z))
    (lt-or-ge 1 x.size)

not-repeated : (reply : Reply) → reply.refusal ≡ 0 → ReadPromise repeated-name reply → ⊥
unfolding number_at header_of label_record_at label_record list_below
not-repeated reply e p = let z = (well p e refl).once 0 1 (omega arith) (omega arith) refl in omega (arith, z)

-- 17 on a plain sheet, and on one with good names
not_plain : (s : List ℕ) (reply : Reply) → (header_of s).named ≡ false → reply.refusal ≡ 17 → ReadPromise s reply → ⊥
not_plain s reply n e p = clash (p.misnamed e).0 n

not_good : (s : List ℕ) (reply : Reply) → WellNamed s (header_of s) → reply.refusal ≡ 17 → ReadPromise s reply → ⊥
not_good s reply w e p = go (p.misnamed e).1
  where
    go : Misnamed s (header_of s) → ⊥
    go (bad i l n) = n (w.each i l)
    go (repeated i j l m q) = let z = w.once i j (omega (arith, l, m)) m q in omega (arith, z, l)

-- ## Chains: what the promise refuses
-- the highest record for the lowest: on no chain, and named twice
not-highest : ReadPromise gaps (refused (Unreached 3)) → ⊥
not-highest p = ((so gaps readings.lowest_gap).unreached refl).fault ((p.unreached refl).sound 1 (omega arith) (omega arith))

not-highest-twice : ReadPromise doubled (refused (ReachedTwice 2)) → ⊥
not-highest-twice p = (p.twice refl).0.sound 1 (omega arith) (omega arith) ((so doubled readings.lowest_twice).twice refl).0.fault

-- a record that two walks visit and one index names
not-visits : ReadPromise shared (refused (ReachedTwice 1)) → ⊥
not-visits p = ((so shared readings.by_states).twice refl).0.sound 1 (omega arith) (omega arith) (p.twice refl).0.fault

-- 16 where a record is on no chain
not-twice-first : ReadPromise both (refused (ReachedTwice 1)) → ⊥
not-twice-first p = let g = (so both readings.both_faults).unreached refl in g.fault ((p.twice refl).1 2 (omega arith) g.high)

-- 5 without a record, a record with another refusal, and a sheet with a lone record that is read
not-zero : (s : List ℕ) → ReadPromise s (record { refusal = 5; record_number = 0; values = [] }) → ⊥
not-zero s p = let z = (p.unreached refl).low in omega (arith, z)

not-other : (s : List ℕ) (j : ℕ) → ReadPromise s (record { refusal = 6; record_number = suc j; values = [] }) → ⊥
not-other s j p = let z = p.others (λ e. omega (arith, e)) (λ e. omega (arith, e)) in omega (arith, z)

not-read : ReadPromise lone (counted (header_of lone)) → ⊥
unfolding number_at header_of labels_length state_record_at transition_record_at state_record transition_record walk chain concat_below reached occurrences
not-read p = let z = p.once (inr refl) 1 (omega arith) (omega arith) in omega (arith, z)
