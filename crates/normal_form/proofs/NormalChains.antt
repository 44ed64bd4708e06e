-- The chains of a normal form are consecutive.
use Prim.Native.Nat.{ℕ, zero, suc, ◌+◌, ◌≤◌, ◌<◌}
use mathlib.Core.Path.{◌≡◌, refl, sym, ap, ◌∙◌}
use mathlib.Core.Bool.{Bool, true, false, cond, ◌||◌, ◌&&◌}
use mathlib.Core.List.{List, [], ◌∷◌, ◌++◌, map}
use native.Mathlib.Omega.{arith}
use native.Mathlib.Nat.{not-suc-le-zero, le_refl, zero-add, suc-add, add-zero, add-suc}
use native.Mathlib.Numerals.{add-one, one-add}
use native.Mathlib.Decide.{dec_lt, ℕ_discrete}
use borrow.Author.Tests.{eq-eqb, ne_eqb, le-leb, lt-ltb}
use lib.ListN.{length, drop, drop_of_length-le}
use lib.Dec.{eqb, leb, ltb}
use Rattle.encoding.specs.declared.Header.{Header}
use Rattle.encoding.specs.Records.{state_record, transition_record}
use Rattle.encoding.specs.Encoding.{walk, chain, reached, member, distinct, states_fit, state_fits, transitions_fit, transition_fits, all_reached, on_some_chain, successor}
use Rattle.encoding.specs.Checked.{Recorded, chains_fit}
use Rattle.encoding.specs.Labels.{Labelling}
use Rattle.lts.specs.System.{Lts}
use Rattle.lts.specs.Transitions.{Transition, transitions_of, transitions_below, transitions}
use Rattle.normal_form.specs.Normal.{first_index, next_index, normal_header, normal, normal_state, normal_transition}
use Rattle.normal_form.specs.NormalForm.{Encodable}
use Rattle.lts.specs.Bounded.{concat_below}
use Rattle.lts.proofs.Below.{all_of}
use Rattle.encoding.proofs.Chains.{walk_end}
use Rattle.lts.proofs.Transitions.{nth, every-nth, up_none, up-length, up-grows, Valid, of-keeps, Sourced, all_keep, state-nth, later}
use Rattle.transitions.proofs.Codes.{code}
use Rattle.normal_form.proofs.Labelled.{normal-length}
use Rattle.normal_form.proofs.NormalReads.{next_small, normal-state, normal-transition}

pub drop_nth : (l : List Transition) (i : ℕ) → i < length l → drop i l ≡ nth l i ∷ drop (suc i) l
unfolding nth
drop_nth [] i u = absurd (not-suc-le-zero u)
drop_nth (x ∷ l) zero u = refl
drop_nth (x ∷ l) (suc i) u = drop_nth l i (omega arith)

first-none : (i j : ℕ) → i ≡ j → first_index i j ≡ 0
unfolding first_index
first-none i j e = rw (eq-eqb i j e)

first_some : (i j : ℕ) → i < j → first_index i j ≡ suc i
unfolding first_index
first_some i j l = rw (ne_eqb i j (λ e. omega arith), add-one)

first-le : (i j : ℕ) → i ≤ j → first_index i j ≤ j
first-le i j l = go (ℕ_discrete i j)
  where
    go : Dec (i ≡ j) → first_index i j ≤ j
    go (yes e) = rw (first-none i j e) (omega arith)
    go (no n) = rw (first_some i j (omega (arith, n))) (omega (arith, n))

mark-le : (b : Bool) → cond b 1 0 ≤ 1
mark-le true = omega arith
mark-le false = omega arith

next_le : (l : List Transition) (i : ℕ) → next_index (suc i) (nth l i) (drop (suc i) l) ≤ length l
unfolding next_index
next_le l i = go (dec_lt (suc i) (length l))
  where
    go : Dec (suc i < length l) → next_index (suc i) (nth l i) (drop (suc i) l) ≤ length l
    go (yes k) = let z = next_small (suc i) (nth l i) (drop (suc i) l) in omega (arith, z)
    go (no k) = rw (drop_of_length-le l {i = suc i} (omega (arith, k))) (omega arith)

-- ## c numbers from j on
unfoldable pub upto : ℕ → ℕ → List ℕ
upto j zero = []
upto j (suc c) = j ∷ upto (suc j) c

upto-none : (j : ℕ) → upto j 0 ≡ []
unfolding upto
upto-none j = refl

upto_add : (j a b : ℕ) → upto j (a + b) ≡ upto j a ++ upto (j + a) b
unfolding upto
upto_add j zero b = rw (zero-add, add-zero)
upto_add j (suc a) b = rw (suc-add, upto_add (suc j) a b, suc-add, add-suc)

upto-out : (x j c : ℕ) → x < j → member x (upto j c) ≡ false
unfolding upto member
upto-out x j zero l = refl
upto-out x j (suc c) l = rw (ne_eqb x j (λ e. omega arith), upto-out x (suc j) c (omega arith))

upto-in : (x j c : ℕ) → j ≤ x → x < j + c → member x (upto j c) ≡ true
unfolding upto member
upto-in x j zero l u = absurd (omega arith)
upto-in x j (suc c) l u = go (λ k. upto-in x (suc j) c k (omega arith)) (ℕ_discrete x j)
  where
    go : (suc j ≤ x → member x (upto (suc j) c) ≡ true) → Dec (x ≡ j) → (eqb x j || member x (upto (suc j) c)) ≡ true
    go r (yes e) = rw (eq-eqb x j e)
    go r (no n) = rw (ne_eqb x j n) (r (omega (arith, n)))

upto-distinct : (j c : ℕ) → distinct (upto j c) ≡ true
unfolding upto distinct
upto-distinct j zero = refl
upto-distinct j (suc c) = rw (upto-out j (suc j) c (le_refl _), upto-distinct (suc j) c)

module _ (K : Labelling) (L : Lts) (w : Encodable K L) where
  abbrev h : Header
  h = normal_header K.named L

  abbrev all : List Transition
  all = transitions L

  unfoldable pub at : ℕ → ℕ
  at p = length (transitions_below L p)

  at_none : at 0 ≡ 0
  unfolding at
  at_none = rw up_none

  normal-at : (i : ℕ) → i < length all → transition_record (normal K L) h (suc i)
      ≡ record { action = (nth all i).action; spare = 0; target = (nth all i).target; next = next_index (suc i) (nth all i) (drop (suc i) all) }
  unfolding normal_transition
  normal-at i l = normal-transition K L w i l

  -- ## The next index
  -- state p's transitions end where the next state's begin, and lie among all
  pub ends : (p : ℕ) → at (suc p) ≡ at p + length (transitions_of L p)
  unfolding at
  ends p = up-length L p

  pub inside : (p : ℕ) → p < L.states → at (suc p) ≤ length all
  unfolding at transitions
  inside p l = up-grows L L.states (suc p) l

  source-at : (p c : ℕ) → p < L.states → c < length (transitions_of L p) → (nth all (at p + c)).source ≡ p
  unfolding at transitions
  source-at p c l u = rw (state-nth L L.states p c l u) (every-nth (Valid L p) (transitions_of L p) c (of-keeps L p) u).source

  after : (p i : ℕ) → at (suc p) ≤ i → i < length all → p < (nth all i).source
  unfolding at transitions
  after p i l u = later L L.states p i l u

  next-on : (p c : ℕ) → p < L.states → suc c < length (transitions_of L p)
      → next_index (suc (at p + c)) (nth all (at p + c)) (drop (suc (at p + c)) all) ≡ suc (at p + c) + 1
  unfolding next_index
  next-on p c l u =
      let e : suc (at p + c) ≡ at p + suc c = omega arith in
      let q = source-at p (suc c) l u in
      let r = source-at p c l (omega arith) in
      let n = ends p in
      let k = inside p l in
      rw (drop_nth all (suc (at p + c)) (omega arith), e, q, r, eq-eqb p p refl)

  next-off : (p c : ℕ) → p < L.states → suc c ≡ length (transitions_of L p)
      → next_index (suc (at p + c)) (nth all (at p + c)) (drop (suc (at p + c)) all) ≡ 0
  unfolding next_index
  next-off p c l u = go (dec_lt (suc (at p + c)) (length all))
    where
      go : Dec (suc (at p + c) < length all) → next_index (suc (at p + c)) (nth all (at p + c)) (drop (suc (at p + c)) all) ≡ 0
      go (yes k) =
          let n = ends p in
          let r = source-at p c l (omega arith) in
          let a = after p (suc (at p + c)) (omega arith) k in
          rw (drop_nth all (suc (at p + c)) k, r, ne_eqb (nth all (suc (at p + c))).source p (λ x. omega arith))
      go (no k) = rw (drop_of_length-le all {i = suc (at p + c)} (omega (arith, k)))

  -- ## The chain of a state
  next_of : (p i : ℕ) → p < L.states → i < length (transitions_of L p)
      → (transition_record (normal K L) h (suc (at p + i))).next ≡ next_index (suc (at p + i)) (nth all (at p + i)) (drop (suc (at p + i)) all)
  next_of p i l u =
      let n = ends p in
      let k = inside p l in
      ap (λ r. r.next) (normal-at (at p + i) (omega arith))

  walk-on : (p : ℕ) → p < L.states → (c fuel i : ℕ) → suc c ≤ fuel → i + suc c ≡ length (transitions_of L p)
      → walk (normal K L) h fuel (suc (at p + i)) ≡ upto (suc (at p + i)) (suc c)
  unfolding walk upto
  walk-on p l c zero i u e = absurd (not-suc-le-zero u)
  walk-on p l zero (suc fuel) i u e =
      ap (λ r. suc (at p + i) ∷ r) (rw (next_of p i l (omega arith), next-off p i l (omega arith)) (walk_end (normal K L) h fuel))
  walk-on p l (suc c) (suc fuel) i u e =
      let to : suc (at p + i) + 1 ≡ suc (at p + suc i) = omega arith in
      let from : suc (suc (at p + i)) ≡ suc (at p + suc i) = omega arith in
      ap (λ r. suc (at p + i) ∷ r)
      (rw (next_of p i l (omega arith), next-on p i l (omega arith), to, from) (walk-on p l c fuel (suc i) (omega arith) (omega arith)))

  first-is : (p : ℕ) → p < L.states → (state_record (normal K L) h p).first ≡ first_index (at p) (at (suc p))
  unfolding at normal_state
  first-is p l = ap (λ r. r.first) (normal-state K L w p l)

  pub chain-on : (p : ℕ) → p < L.states → chain (normal K L) h p ≡ upto (suc (at p)) (length (transitions_of L p))
  unfolding chain
  chain-on p l = rw (first-is p l) (go (length (transitions_of L p)) refl)
    where
      go : (c : ℕ) → length (transitions_of L p) ≡ c
          → walk (normal K L) h (suc (length all)) (first_index (at p) (at (suc p))) ≡ upto (suc (at p)) (length (transitions_of L p))
      go zero e = let n = ends p in rw (first-none (at p) (at (suc p)) (omega arith), e) (walk_end (normal K L) h _ ∙ sym (upto-none _))
      go (suc c) e =
          let n = ends p in
          let k = inside p l in
          rw (first_some (at p) (at (suc p)) (omega arith), e) (rw add-zero at (walk-on p l c (suc (length all)) 0 (omega arith) (omega arith)))

  pub reached-on : (p : ℕ) → p ≤ L.states → reached (normal K L) h p ≡ upto 1 (at p)
  unfolding reached concat_below
  reached-on zero l = sym (rw at_none (upto-none 1))
  reached-on (suc p) l = rw (reached-on p (omega arith), chain-on p l, ends p, upto_add, one-add)

  -- ## Rules 1 to 5, and 16
  pub state-is : (p : ℕ) → p < L.states
      → state_record (normal K L) h p ≡ record { mark = cond (L.terminating p) 1 0; spare = 0; first = first_index (at p) (at (suc p)) }
  unfolding at normal_state
  state-is p l = normal-state K L w p l

  states-ok : states_fit (normal K L) h ≡ true
  unfolding states_fit state_fits
  states-ok = all_of L.states _ (λ p l. rw (state-is p l) (fits p l))
    where
      fits : (p : ℕ) → p < L.states → (leb (cond (L.terminating p) 1 0) 1 && true && leb (first_index (at p) (at (suc p))) (length all)) ≡ true
      fits p l =
          let n = ends p in
          let k = inside p l in
          let q = first-le (at p) (at (suc p)) (omega arith) in
          rw (le-leb (cond (L.terminating p) 1 0) 1 (mark-le (L.terminating p)), le-leb (first_index (at p) (at (suc p))) (length all) (omega arith))

  transitions-ok : transitions_fit (normal K L) h ≡ true
  unfolding transitions_fit transition_fits transitions
  transitions-ok = all_of (length all) _ (λ i l. rw (add-one, normal-at i l) (fits i l))
    where
      fits : (i : ℕ) → i < length all
          → (leb 1 (nth all i).action && leb (nth all i).action L.actions && true && ltb (nth all i).target L.states
          && leb (next_index (suc i) (nth all i) (drop (suc i) all)) (length all)) ≡ true
      fits i l =
          let v = (every-nth (Sourced L L.states) all i (all_keep L L.states) l).valid in
          let x = next_le all i in
          rw (
            le-leb 1 (nth all i).action v.low,
            le-leb (nth all i).action L.actions v.high,
            lt-ltb (nth all i).target L.states v.target,
            le-leb (next_index (suc i) (nth all i) (drop (suc i) all)) (length all) (omega arith),
          )

  pub recorded : Recorded (normal K L) h
  recorded =
      record {
        sized = record { bounds = w.bounds; long = normal-length K L w.labelled };
        states = states-ok;
        transitions = transitions-ok;
      }

  pub at-end : at L.states ≡ length all
  unfolding at transitions
  at-end = refl

  pub chains-ok : chains_fit (normal K L) h ≡ true
  unfolding chains_fit all_reached on_some_chain
  chains-ok =
      rw (reached-on L.states (le_refl _), at-end, upto-distinct 1 (length all))
      (all_of (length all) _ (λ i l. upto-in (i + 1) 1 (length all) (omega arith) (omega arith)))

  -- ## Rule 6
  pub successor-on : (p i : ℕ) → p < L.states → i < length (transitions_of L p) → successor (normal K L) h (suc (at p + i)) ≡ code (nth (transitions_of L p) i)
  unfolding successor code at transitions
  successor-on p i l u =
      let n = ends p in
      let k = inside p l in
      let m = normal-at (at p + i) (omega arith) in
      rw (m, state-nth L L.states p i l u)

  pub successors-on : (p : ℕ) → p < L.states → (c i : ℕ) → i + c ≡ length (transitions_of L p)
      → map (successor (normal K L) h) (upto (suc (at p + i)) c) ≡ map code (drop i (transitions_of L p))
  unfolding upto
  successors-on p l zero i e = rw (drop_of_length-le (transitions_of L p) {i = i} (omega arith))
  successors-on p l (suc c) i e =
      let to : suc (suc (at p + i)) ≡ suc (at p + suc i) = omega arith in
      rw (drop_nth (transitions_of L p) i (omega arith), to, successors-on p l c (suc i) (omega arith), successor-on p i l (omega arith))
