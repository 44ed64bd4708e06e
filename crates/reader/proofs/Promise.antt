-- What is promised of read: what the refusals 17, 5 and 16 say of the names and of the record, and what their absence says of all.
use Prim.Native.Nat.{ℕ, ◌+◌, ◌-◌, ◌≤◌}
use mathlib.Core.Path.{◌≡◌, refl, sym, ap, ◌∙◌}
use mathlib.Core.Logic.{⊎_elim}
use mathlib.Core.Bool.{Bool, true, false, not}
use mathlib.Core.List.{List}
use native.Mathlib.Omega.{arith}
use borrow.Author.Tests.{eqb-true, not-true, not-false}
use lib.ListN.{drop}
use Rattle.lts.specs.declared.Refusal.{Refusal}
use Rattle.lts.specs.declared.Refusal.TheVariants.{Unreached, ReachedTwice}
use Rattle.lts.specs.Refusal.{refusal_number, refusal_record}
use Rattle.lts.specs.Bounded.{all_below, lowest}
use Rattle.lts.specs.Rule.{Nothing, First, broken, Reply, refused, Answer}
use Rattle.lts.proofs.Rule.{when-broken, when-kept, finding, at_or_after, past, never, numbered, no_record}
use Rattle.lts.proofs.Below.{T_true, true-T, clash, all-at, all-cong, lowest-at, lowest-before, lowest-some}
use Rattle.encoding.specs.declared.Header.{Header}
use Rattle.encoding.specs.Records.{header_of}
use Rattle.encoding.specs.Labels.{labels_fit}
use Rattle.encoding.specs.Checked.{Recorded}
use Rattle.encoding.specs.Encoding.{reached, on_some_chain, all_reached, named_twice, none_twice, occurrences, lowest_record, headed_rules, sheet_rules, read_encoding}
use Rattle.encoding.specs.Read.{reading_reply, counted, OnSomeChain, NamedTwice, Lowest, ReadPromise}
use Rattle.encoding.proofs.Members.{member-occurs, distinct-once}
use Rattle.encoding.proofs.OnChain.{on-chain-iff}
use Rattle.encoding.proofs.Naming.{named-iff, none-twice-distinct}
use Rattle.encoding.proofs.Reader.{in-range, sheet-passed, kept-readable, kept-chains}
use Rattle.encoding.proofs.Laws.{denoted}
use Rattle.reader.proofs.Labels.{well-named, misnamed-by}
use Rattle.std.specs.Prelude.{Ok, Err}

-- ## The lowest record of which a test holds
module _ (h : Header) (f : ℕ → Bool) (Fault Sound : ℕ → Type 0) where
  lowest-with : all_below h.transitions (λ i. not (f (i + 1))) ≡ false → ((j : ℕ) → f j ≡ true → Fault j) → ((j : ℕ) → f j ≡ false → Sound j)
      → Lowest h Fault Sound (lowest_record h f)
  lowest-with e is-fault is-sound =
      let k = h.transitions in
      let g : ℕ → Bool = λ i. f (i + 1) in
      let l = lowest-some k g e in
      record {
        low = omega arith;
        high = omega (arith, l);
        fault = is-fault (lowest k g + 1) (lowest-at k g l);
        sound = λ i a b. is-sound i (let at : i - 1 + 1 ≡ i = omega (arith, a) in rw at at (lowest-before k g (i - 1) (omega (arith, a, b))));
      }

module _ (s : List ℕ) where
  abbrev h : Header
  h = header_of s

  -- ## What the first broken rule says of the others
  -- it is neither 1 nor 2, so the labels' rule is the next
  from-labels : {q : Refusal} → broken (sheet_rules s) ≡ First q → (refusal_number q ≡ 1 → ⊥) → (refusal_number q ≡ 2 → ⊥)
      → broken (drop 3 (headed_rules s h)) ≡ First q
  unfolding sheet_rules headed_rules
  from-labels e a b =
      let e₁ = past _ _ _ e (λ z. a (sym z)) in
      let e₂ = past _ _ _ e₁.1 (λ z. b (sym z)) in
      (past _ _ _ e₂.1 (λ z. a (sym z))).1

  module _ {q : Refusal} (e : broken (drop 3 (headed_rules s h)) ≡ First q) where
    by-17 : refusal_number q ≡ 17 → labels_fit s h ≡ false
    unfolding headed_rules
    by-17 n = ⊎_elim (λ a. a.0)
        (λ b.
        let e₁ = past _ _ _ b.1 (λ z. omega (arith, z, n)) in
        let e₂ = past _ _ _ e₁.1 (λ z. omega (arith, z, n)) in
        let e₃ = past _ _ _ e₂.1 (λ z. omega (arith, z, n)) in
        let e₄ = past _ _ _ e₃.1 (λ z. omega (arith, z, n)) in
        let e₅ = past _ _ _ e₄.1 (λ z. omega (arith, z, n)) in
        absurd (never e₅.1)) (at_or_after _ _ _ e)

    not-17 : (refusal_number q ≡ 17 → ⊥) → labels_fit s h ≡ true
    unfolding headed_rules
    not-17 n = (past _ _ _ e (λ z. n (sym z))).0

  -- it is 5, 16 or 6
  recorded-by : {q : Refusal} → broken (sheet_rules s) ≡ First q → 5 ≤ refusal_number q → refusal_number q ≤ 16
      → Recorded s h × (broken (drop 6 (headed_rules s h)) ≡ First q)
  unfolding sheet_rules headed_rules
  recorded-by e l u =
      let e₁ = past _ _ _ e (λ z. omega (arith, z, l)) in
      let e₂ = past _ _ _ e₁.1 (λ z. omega (arith, z, l)) in
      let e₃ = past _ _ _ e₂.1 (λ z. omega (arith, z, l)) in
      let e₄ = past _ _ _ e₃.1 (λ z. omega (arith, z, u)) in
      let e₅ = past _ _ _ e₄.1 (λ z. omega (arith, z, l)) in
      let e₆ = past _ _ _ e₅.1 (λ z. omega (arith, z, l)) in
      (record { sized = record { bounds = in-range _ e₂.0; long = eqb-true _ _ e₃.0 }; states = e₅.0; transitions = e₆.0 }, e₆.1)

  module _ (g : Recorded s h) {q : Refusal} (e : broken (drop 6 (headed_rules s h)) ≡ First q) where
    by-5 : refusal_number q ≡ 5 → (all_reached s h ≡ false) × (Unreached (lowest_record h (λ j. not (on_some_chain s h j))) ≡ q)
    unfolding headed_rules
    by-5 n = ⊎_elim (λ a. a)
        (λ b.
        let e₁ = past _ _ _ b.1 (λ z. omega (arith, z, n)) in
        let e₂ = past _ _ _ e₁.1 (λ z. omega (arith, z, n)) in
        absurd (never e₂.1)) (at_or_after _ _ _ e)

    by-16 : refusal_number q ≡ 16 → (all_reached s h ≡ true) × (none_twice s h ≡ false) × (ReachedTwice (lowest_record h (named_twice s h)) ≡ q)
    unfolding headed_rules
    by-16 n =
        let e₀ = past _ _ _ e (λ z. omega (arith, z, n)) in
        ⊎_elim (λ a. (e₀.0, a.0, a.1)) (λ b. let e₁ = past _ _ _ b.1 (λ z. omega (arith, z, n)) in absurd (never e₁.1)) (at_or_after _ _ _ e₀.1)

    by-6 : refusal_number q ≡ 6 → (all_reached s h ≡ true) × (none_twice s h ≡ true)
    unfolding headed_rules
    by-6 n =
        let e₀ = past _ _ _ e (λ z. omega (arith, z, n)) in
        let e₁ = past _ _ _ e₀.1 (λ z. omega (arith, z, n)) in
        (e₀.0, e₁.0)

  -- ## What that says of the records
  module _ (g : Recorded s h) where
    lowest-unreached : all_reached s h ≡ false → Lowest h (λ j. OnSomeChain s h j → ⊥) (OnSomeChain s h) (lowest_record h (λ j. not (on_some_chain s h j)))
    unfolding all_reached
    lowest-unreached e = lowest-with h (λ j. not (on_some_chain s h j)) _ _
        (all-cong h.transitions (λ i. not (not (on_some_chain s h (i + 1)))) (λ i. on_some_chain s h (i + 1)) (λ i l. twice-not (on_some_chain s h (i + 1))) ∙ e)
        (λ j t r. clash (T_true (on_some_chain s h j) ((on-chain-iff s h g j).1 r)) (not-true _ t))
        (λ j t. (on-chain-iff s h g j).0 (true-T _ (not-false (on_some_chain s h j) t)))
      where
        twice-not : (b : Bool) → not (not b) ≡ b
        twice-not true = refl
        twice-not false = refl

    lowest-twice : none_twice s h ≡ false → Lowest h (NamedTwice s h) (λ j. NamedTwice s h j → ⊥) (lowest_record h (named_twice s h))
    unfolding none_twice
    lowest-twice e = lowest-with h (named_twice s h) _ _ e (λ j t. (named-iff s h j).0 (true-T _ t)) (λ j t r. clash (T_true _ ((named-iff s h j).1 r)) t)

    each-reached : all_reached s h ≡ true → (j : ℕ) → 1 ≤ j → j ≤ h.transitions → OnSomeChain s h j
    unfolding all_reached
    each-reached e j a b =
        let at : j - 1 + 1 ≡ j = omega (arith, a) in
        (on-chain-iff s h g j).0 (true-T _ (rw at at (all-at h.transitions _ e (j - 1) (omega (arith, a, b)))))

    each-once : all_reached s h ≡ true → none_twice s h ≡ true → (j : ℕ) → 1 ≤ j → j ≤ h.transitions → occurrences j (reached s h h.states) ≡ 1
    unfolding on_some_chain
    each-once e f j a b =
        let some = member-occurs j _ ((on-chain-iff s h g j).1 (each-reached e j a b)) in
        omega (arith, some, distinct-once _ (none-twice-distinct s h g f) j)

  -- ## The promise
  module _ {reply : Reply} (stops : (q : Refusal) → broken (sheet_rules s) ≡ First q → reply ≡ refused q)
      (goes : broken (sheet_rules s) ≡ Nothing → reply ≡ counted h) where
    -- a refusal with this number is the first broken rule's
    refused-by : (x : ℕ) → 1 ≤ x → reply.refusal ≡ x → (q : Refusal) × (broken (sheet_rules s) ≡ First q) × (refusal_number q ≡ x) × (reply ≡ refused q)
    refused-by x l e = ⊎_elim (λ p. absurd (let z = ap (λ (r : Reply). r.refusal) (goes p) in omega (arith, z, e, l)))
        (λ q. (q.0, q.1, sym (ap (λ (r : Reply). r.refusal) (stops q.0 q.1)) ∙ e, stops q.0 q.1)) (finding (sheet_rules s))

    pub promised : ReadPromise s reply
    promised = record {
      refuses = stops;
      misnamed = λ e.
          let q = refused-by 17 (omega arith) e in
          misnamed-by s h (by-17 (from-labels q.1 (λ z. omega (arith, z, q.2)) (λ z. omega (arith, z, q.2))) q.2);
      named = λ a b c is. well-named s h is (⊎_elim (λ p. (kept-readable s p).labels)
          (λ q. let n = ap (λ (r : Reply). r.refusal) (stops q.0 q.1) in
          not-17 (from-labels q.1 (λ z. a (n ∙ z)) (λ z. b (n ∙ z))) (λ z. c (n ∙ z))) (finding (sheet_rules s)));
      unreached = λ e.
          let q = refused-by 5 (omega arith) e in
          let k = recorded-by q.1 (omega (arith, q.2)) (omega (arith, q.2)) in
          let b = by-5 k.0 k.1 q.2 in
          let j : reply.record_number ≡ lowest_record h (λ j. not (on_some_chain s h j))
          = ap (λ (r : Reply). r.record_number) q.3 ∙ ap refusal_record (sym b.1) in
          rw j (lowest-unreached k.0 b.0);
      twice = λ e.
          let q = refused-by 16 (omega arith) e in
          let k = recorded-by q.1 (omega (arith, q.2)) (omega (arith, q.2)) in
          let b = by-16 k.0 k.1 q.2 in
          let j : reply.record_number ≡ lowest_record h (named_twice s h) = ap (λ (r : Reply). r.record_number) q.3 ∙ ap refusal_record (sym b.2) in
          (rw j (lowest-twice k.0 b.1), each-reached k.0 b.0);
      others = λ a b. ⊎_elim (λ p. ap (λ (r : Reply). r.record_number) (goes p))
          (λ q. let e = stops q.0 q.1 in let n = ap (λ (r : Reply). r.refusal) e in
          ap (λ (r : Reply). r.record_number) e ∙ no_record q.0 (λ z. a (n ∙ z), λ z. b (n ∙ z))) (finding (sheet_rules s));
      once = ⊎_elim
          (λ e.
          let q = refused-by 6 (omega arith) e in
          let k = recorded-by q.1 (omega (arith, q.2)) (omega (arith, q.2)) in
          let b = by-6 k.0 k.1 q.2 in
          each-once k.0 b.0 b.1)
          (λ e. ⊎_elim
          (λ p. let r = kept-readable s p in let c = kept-chains s h r.recorded r.chains in each-once r.recorded c.0 c.1)
          (λ q. absurd (numbered q.0 (sym e ∙ ap (λ (r : Reply). r.refusal) (stops q.0 q.1)))) (finding (sheet_rules s)));
      answers = λ e. (goes e, denoted s h (sym (sheet-passed s refl e)));
    }

pub read-promised : (s : List ℕ) {r : (Answer Header)} → r ≡ read_encoding s → ReadPromise s (reading_reply r)
unfolding read_encoding reading_reply
read-promised s {r} is = promised s
    (λ q e. ap reading_reply (when-broken (sheet_rules s) Err (Ok (header_of s)) (sym is) e))
    (λ e. ap reading_reply (when-kept (sheet_rules s) Err (Ok (header_of s)) (sym is) e))

pub read_meets : (s : List ℕ) {r : (Answer Header)} → r ≡ read_encoding s → (r ≡ read_encoding s) × ReadPromise s (reading_reply r)
read_meets s e = (e, read-promised s e)
