-- A strategy has at most 65,536 entries. So it is written into numbers first, as many as a plan with room for `room` entries may need,
-- and its entries are then carried into the plan: the outcome is that of the call on the plan itself.
use Prim.Native.Nat.{ℕ, ◌*◌, ◌/◌, ◌≤◌, ◌<◌, zero-le}
use native.Mathlib.Nat.{mul-zero}
use native.Mathlib.Omega.{arith}
use mathlib.Core.Path.{◌≡◌, refl, sym, ◌∙◌, ap, subst⁻¹}
use mathlib.Core.Logic.{⊎_elim}
use mathlib.Core.Bool.{Bool, true, false, cond}
use mathlib.Core.List.{List, [], ◌∷◌, ◌++◌, append_assoc}
use lib.Dec.{leb}
use lib.ListN.{length, take, drop, length-append}
use borrow.Author.Tests.{leb-true, leb-false, le-leb}
use Rattle.lts.specs.Rounds.{refutation_round}
use Rattle.lts.specs.declared.Entry.{Entry}
use Rattle.lts.specs.Strategy.{entries_of, entry_numbers}
use Rattle.lts.specs.declared.Refusal.{Refusal}
use Rattle.lts.specs.declared.Refusal.TheVariants.{StillRelated, Buffer}
use Rattle.lts.specs.Rule.{Rule, ◌otherwise◌, Nothing, First, broken, Reply, refused, given, Answer}
use Rattle.lts.proofs.Rule.{first_part, second-part, kept, both-kept, refuses, passes, when-broken, when-kept, finding, numbered, number_same}
use Rattle.lts.proofs.Strategy.{strategy-count}
use Rattle.encoding.specs.Records.{header_of}
use Rattle.encoding.specs.Denotation.{lts_of}
use Rattle.inputs.specs.Inputs.{pair_rules}
use Rattle.inputs.proofs.Laws.{pair-inputs, pair-states}
use Rattle.strategy_rounds.proofs.Refutations.{square-most}
use Rattle.strategy_rounds.proofs.Lengths.{length_most}
use Rattle.strategy.specs.Check.{start_of}
use Rattle.strategy.specs.Write.{WriteOutcome, write_reply, plan_of, plan_length, write_rules, write_call}
use Rattle.strategy.proofs.Promise.{known, numbers-back}
use Rattle.strategy_write.proofs.Writes.{length-numbers}
use Rattle.strategy.specs.Within.{entry_count, number_count, WrittenWithin}
use Rattle.std.specs.Prelude.{Ok, Err}

-- ---- numbers for a plan of `room` entries

pub count_most : (room : ℕ) → number_count room ≤ 262144
unfolding number_count
count_most room = by (leb room 65536) refl
  where
    by : (b : Bool) → leb room 65536 ≡ b → cond b (4 * room) 262144 ≤ 262144
    by true e = let h = leb-true room 65536 e in omega (arith, h)
    by false e = omega arith

-- they have room for the same strategies
count-test : (room k : ℕ) → k ≤ 65536 → leb k (number_count room / 4) ≡ leb k room
unfolding number_count
count-test room k few = by (leb room 65536) refl
  where
    by : (b : Bool) → leb room 65536 ≡ b → leb k (cond b (4 * room) 262144 / 4) ≡ leb k room
    by true e = let whole : 4 * room / 4 ≡ room = omega arith in ap (leb k) whole
    by false e =
        let h = leb-false room 65536 e in
        let all : k ≤ 262144 / 4 = omega (arith, few) in
        le-leb k (262144 / 4) all ∙ sym (le-leb k room (omega (arith, few, h)))

-- ---- what a reply says of the answer

refused-answer : (t : Answer ℕ) (r : Refusal) → write_reply t ≡ refused r → t ≡ Err r
unfolding write_reply
refused-answer (Ok c) r e = absurd (numbered r (ap (λ (x : Reply). x.refusal) e))
refused-answer (Err q) r e = ap Err (number_same q r (ap (λ (x : Reply). x.refusal) e) (ap (λ (x : Reply). x.record_number) e))

given-answer : (t : Answer ℕ) (k : ℕ) → write_reply t ≡ given (k ∷ []) → t ≡ Ok k
unfolding write_reply
given-answer (Ok c) k e = let v = ap (λ (x : Reply). x.values) e in cc
given-answer (Err q) k e = absurd (numbered q (sym (ap (λ (x : Reply). x.refusal) e)))

-- ---- the plan

module _ (s start : List ℕ) (p q : ℕ) where
  abbrev es : List Entry
  es = plan_of s start p q

  abbrev k : ℕ
  k = plan_length s start p q

  abbrev falling : Bool
  falling = leb (refutation_round (lts_of s) (start_of s start) p q) ((header_of s).states * (header_of s).states)

  module _ (read : broken (pair_rules s start p q) ≡ Nothing) where
    count : length es ≡ k
    count = strategy-count (lts_of s) (known s start (pair-inputs s start p q read)).formed (start_of s start) p q

    few : falling ≡ true → k ≤ 65536
    few f =
        let d = known s start (pair-inputs s start p q read) in
        let b = pair-states s start p q refl read in
        let most = length_most (lts_of s) (start_of s start) p q (subst⁻¹ (λ (n : ℕ). p < n) d.states b.0) (subst⁻¹ (λ (n : ℕ). q < n) d.states b.1)
        (subst⁻¹ (λ (n : ℕ). refutation_round (lts_of s) (start_of s start) p q ≤ n * n) d.states (leb-true _ _ f)) in
        let square = square-most (lts_of s).states (omega (arith, d.states, d.bounds.states)) in
        omega (arith, most, square)

  -- the same rules are broken with as many numbers as are made
  same-rules : (room : ℕ) → broken (write_rules s start p q (number_count room / 4)) ≡ broken (write_rules s start p q room)
  unfolding write_rules broken
  same-rules room = ⊎_elim
      (λ e. second-part (pair_rules s start p q) _ e ∙ by falling refl (few e) ∙ sym (second-part (pair_rules s start p q) _ e))
      (λ e. first_part (pair_rules s start p q) _ e.1 ∙ sym (first_part (pair_rules s start p q) _ e.1)) (finding (pair_rules s start p q))
    where
      by : (b : Bool) → falling ≡ b → (falling ≡ true → k ≤ 65536)
          → broken (falling otherwise StillRelated ∷ leb k (number_count room / 4) otherwise Buffer ∷ []) ≡ broken (falling otherwise StillRelated ∷ leb k room otherwise Buffer ∷ [])
      by false f few = rw f
      by true f few = rw (f, count-test room k (few f))

  -- ---- what is written into numbers d of that count, with others after them
  module _ (room : ℕ) (answer : Answer ℕ) (numbers d part rest : List ℕ) (long : length d ≡ number_count room)
      (is : write_call entry_numbers 4 s start p q d ≡ record { reply = write_reply answer; plan = part }) (whole : numbers ≡ part ++ rest) where
    abbrev rules : List Rule
    rules = write_rules s start p q room

    here : broken (write_rules s start p q (length d / 4)) ≡ broken rules
    here = ap (λ (x : ℕ). broken (write_rules s start p q (x / 4))) long ∙ same-rules room

    outcome-broken : (r : Refusal) → broken rules ≡ First r → ◌≡◌ {A = WriteOutcome ℕ} (record { reply = write_reply answer; plan = part }) (record { reply = refused r; plan = d })
    unfolding write_call
    outcome-broken r e = when-broken (write_rules s start p q (length d / 4)) _ _ is (here ∙ e)

    outcome-kept : broken rules ≡ Nothing → ◌≡◌ {A = WriteOutcome ℕ} (record { reply = write_reply answer; plan = part }) (record { reply = given (k ∷ []); plan = entry_numbers es ++ drop (4 * k) d })
    unfolding write_call
    outcome-kept e = when-kept (write_rules s start p q (length d / 4)) _ _ is (here ∙ e)

    read_kept : broken rules ≡ Nothing → (broken (pair_rules s start p q) ≡ Nothing) × (k ≤ room)
    unfolding write_rules
    read_kept e = let b = both-kept (pair_rules s start p q) _ e in (b.0, leb-true _ _ (kept _ _ _ (kept _ _ _ b.1).1).0)

    all : broken rules ≡ Nothing → numbers ≡ entry_numbers es ++ (drop (4 * k) d ++ rest)
    all e = whole ∙ ap (λ (l : List ℕ). l ++ rest) (ap (λ (o : WriteOutcome ℕ). o.plan) (outcome-kept e)) ∙ append_assoc (entry_numbers es) (drop (4 * k) d) rest

    refuses-is : (r : Refusal) → broken rules ≡ First r → answer ≡ Err r
    refuses-is r e = refused-answer answer r (ap (λ (o : WriteOutcome ℕ). o.reply) (outcome-broken r e))

    answers-is : broken rules ≡ Nothing → answer ≡ Ok k
    answers-is e = given-answer answer k (ap (λ (o : WriteOutcome ℕ). o.reply) (outcome-kept e))

    bounds : (entry_count answer ≤ room) × (4 * entry_count answer ≤ length numbers)
    unfolding entry_count
    bounds = ⊎_elim
        (λ e. let b = read_kept e in rw (answers-is e) (b.1, omega (arith, ap length (all e), length-append (entry_numbers es) (drop (4 * k) d ++ rest), length-numbers es, count b.0)))
        (λ e. rw (refuses-is e.0 e.1) (zero-le, zero-le)) (finding rules)

    pub within : WrittenWithin s start p q room answer numbers
    within = record {
      refuses = refuses-is;
      answers = answers-is;
      written = λ e. ap (λ (n : ℕ). take n (entries_of numbers)) (sym (count (read_kept e).0)) ∙ ap (λ (l : List ℕ). take (length es) (entries_of l)) (all e)
          ∙ numbers-back es (drop (4 * k) d ++ rest);
      fits = bounds.0;
      whole = bounds.1;
    }

-- ---- what is carried into a plan is the outcome of the call on it

pub carried-within : {A : Type 0} (carried : List Entry → List A) (width : ℕ) → carried [] ≡ [] → (s start : List ℕ) (p q : ℕ) (plan : List A) {answer : Answer ℕ} {numbers : List ℕ}
    → WrittenWithin s start p q (length plan / width) answer numbers
    → write_call carried width s start p q plan ≡ record { reply = write_reply answer; plan = carried (take (entry_count answer) (entries_of numbers)) ++ drop (width * entry_count answer) plan }
unfolding write_call write_reply entry_count
carried-within {A} carried width empty s start p q plan {answer} {numbers} w = ⊎_elim
    (λ e. passes rules _ _ e ∙ rw (w.answers e, w.written e))
    (λ e. refuses rules _ _ e.1 ∙ rw (w.refuses e.0 e.1, empty, mul-zero width)) (finding rules)
  where
    rules : List Rule
    rules = write_rules s start p q (length plan / width)
