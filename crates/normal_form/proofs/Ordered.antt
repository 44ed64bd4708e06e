-- Records in order along a chain: their actions and targets, as one number each, rise; and the other way round.
use Prim.Native.Nat.{ℕ, zero, suc, ◌+◌, ◌*◌, ◌-◌, ◌≤◌, ◌<◌}
use mathlib.Core.Path.{◌≡◌, ap, ◌∙◌}
use mathlib.Core.Bool.{true, ◌&&◌, ◌||◌, and-eq-true_iff, or-true}
use mathlib.Core.List.{List, map}
use native.Mathlib.Omega.{arith}
use native.Mathlib.Nat.{not-suc-le-zero}
use native.Mathlib.Numerals.{add-one}
use native.Mathlib.Decide.{dec_lt, ℕ_discrete}
use borrow.Author.Tests.{eq-eqb, ne_eqb, eqb-true, lt-ltb, le-ltb, ltb-true}
use lib.ListN.{length}
use lib.Dec.{eqb, ltb}
use Rattle.lts.specs.Bounded.{list_below}
use Rattle.lts.proofs.Below.{length-list_below, get_or-list_below, all-at, all_of}
use Rattle.encoding.specs.declared.Header.{Header}
use Rattle.encoding.specs.declared.TransitionRecord.{TransitionRecord}
use Rattle.encoding.specs.Records.{state_record, transition_record}
use Rattle.encoding.specs.Encoding.{walk, chain, reached, successor}
use Rattle.encoding.specs.Checked.{ReadableAs}
use Rattle.normal_form.specs.NormalForm.{before, in_order, IsNormal}
use Rattle.lts.proofs.Lists.{Every, every-at, concat-keeps, concat-length, concat-grows}
use Rattle.encoding.proofs.Chains.{first-known, transition-known}
use Rattle.transitions.proofs.Codes.{Rising}

-- ## One record before another, by the numbers 256 * action + target
before-up : (r q : TransitionRecord) → r.target < 256 → before r q ≡ true → 256 * r.action + r.target < 256 * q.action + q.target
unfolding before
before-up r q l e = go (dec_lt r.action q.action)
  where
    go : Dec (r.action < q.action) → 256 * r.action + r.target < 256 * q.action + q.target
    go (yes k) = omega arith
    go (no k) =
        let e' = rw (le-ltb r.action q.action (omega (arith, k))) at e in
        let p = (and-eq-true_iff (eqb r.action q.action) (ltb r.target q.target)).0 e' in
        let a = eqb-true r.action q.action p.0 in
        let t = ltb-true r.target q.target p.1 in
        omega (arith, a, t)

up-before : (r q : TransitionRecord) → q.target < 256 → 256 * r.action + r.target < 256 * q.action + q.target → before r q ≡ true
unfolding before
up-before r q l e = go (dec_lt r.action q.action)
  where
    go : Dec (r.action < q.action) → (ltb r.action q.action || eqb r.action q.action && ltb r.target q.target) ≡ true
    go (yes k) = rw (lt-ltb r.action q.action k)
    go (no k) =
        let a : r.action ≡ q.action = omega (arith, k) in
        rw (eq-eqb r.action q.action a, lt-ltb r.target q.target (omega (arith, a))) (or-true (ltb r.action q.action))

-- ## Along a walk
module _ (s : List ℕ) (h : Header) (g : ReadableAs s h) where
  target_small : (j : ℕ) → 1 ≤ j → j ≤ h.transitions → (transition_record s h j).target < 256
  target_small j l u = let r = transition-known s h g.recorded j l u in let b = g.recorded.sized.bounds in omega arith

  next_small : (j : ℕ) → 1 ≤ j → j ≤ h.transitions → (transition_record s h j).next ≤ h.transitions
  next_small j l u = (transition-known s h g.recorded j l u).next

  -- the number of record j is below that of its next
  order-up : (j : ℕ) → 1 ≤ j → j ≤ h.transitions → in_order s h j ≡ true → 0 < (transition_record s h j).next
      → suc (successor s h j) ≤ successor s h (transition_record s h j).next
  unfolding in_order successor
  order-up j l u e k =
      let e' = rw (ne_eqb (transition_record s h j).next 0 (λ z. omega (arith, z))) at e in
      before-up (transition_record s h j) (transition_record s h (transition_record s h j).next) (target_small j l u) e'

  up-order : (j : ℕ) → 1 ≤ j → j ≤ h.transitions → (0 < (transition_record s h j).next → suc (successor s h j) ≤ successor s h (transition_record s h j).next)
      → in_order s h j ≡ true
  unfolding in_order successor
  up-order j l u k = go (ℕ_discrete (transition_record s h j).next 0)
    where
      go : Dec ((transition_record s h j).next ≡ 0)
          → (eqb (transition_record s h j).next 0 || before (transition_record s h j) (transition_record s h (transition_record s h j).next)) ≡ true
      go (yes z) = rw (eq-eqb (transition_record s h j).next 0 z)
      go (no z) =
          let p : 0 < (transition_record s h j).next = omega (arith, z) in
          rw (
            ne_eqb (transition_record s h j).next 0 z,
            up-before (transition_record s h j) (transition_record s h (transition_record s h j).next) (target_small _ p (next_small j l u)) (k p),
          )

  walk-rising : ((j : ℕ) → 1 ≤ j → j ≤ h.transitions → in_order s h j ≡ true) → (fuel j b : ℕ) → j ≤ h.transitions → (0 < j → b ≤ successor s h j)
      → Rising b (map (successor s h) (walk s h fuel j))
  unfolding walk
  walk-rising o zero j b u k = tt
  walk-rising o (suc fuel) zero b u k = tt
  walk-rising o (suc fuel) (suc j) b u k =
      let l : 1 ≤ suc j = omega arith in
      let i = (transition_record s h (suc j)).next in
      (k l, walk-rising o fuel i (suc (successor s h (suc j))) (next_small (suc j) l u) (order-up (suc j) l u (o (suc j) l u)))

  rising-walk : (fuel j b : ℕ) → j ≤ h.transitions → length (walk s h fuel j) < fuel → Rising b (map (successor s h) (walk s h fuel j))
      → Every (λ x. in_order s h x ≡ true) (walk s h fuel j)
  unfolding walk
  rising-walk zero j b u k r = tt
  rising-walk (suc fuel) zero b u k r = tt
  rising-walk (suc fuel) (suc j) b u k r =
      let l : 1 ≤ suc j = omega arith in
      let i = (transition_record s h (suc j)).next in (
        up-order (suc j) l u (λ p. head fuel i p (omega arith) r.1),
        rising-walk fuel i (suc (successor s h (suc j))) (next_small (suc j) l u) (omega arith) r.1,
      )
    where
      head : (fuel i : ℕ) → 0 < i → length (walk s h fuel i) < fuel → Rising (suc (successor s h (suc j))) (map (successor s h) (walk s h fuel i))
          → suc (successor s h (suc j)) ≤ successor s h i
      head zero i p k r = absurd (not-suc-le-zero k)
      head (suc fuel) zero p k r = absurd (not-suc-le-zero p)
      head (suc fuel) (suc i) p k r = r.0

  -- ## Along the chains
  chain-short : length (reached s h h.states) ≡ h.transitions → (p : ℕ) → p < h.states → length (chain s h p) < suc h.transitions
  unfolding reached
  chain-short e p l =
      let a = concat-length (chain s h) p in
      let b = concat-grows (chain s h) h.states (suc p) l in
      omega (arith, a, b, e)

  pub reached-length : IsNormal s h → length (reached s h h.states) ≡ h.transitions
  reached-length n = ap length n.consecutive ∙ length-list_below h.transitions suc

  pub chain-ends : IsNormal s h → (p : ℕ) → p < h.states → length (chain s h p) < suc h.transitions
  chain-ends n p l = chain-short (reached-length n) p l

  pub chain-rising : IsNormal s h → (p : ℕ) → p < h.states → Rising 0 (map (successor s h) (chain s h p))
  unfolding chain
  chain-rising n p l =
      walk-rising at (suc h.transitions) (state_record s h p).first 0 (first-known s h g.recorded p l).bound (λ k. omega arith)
    where
      at : (j : ℕ) → 1 ≤ j → j ≤ h.transitions → in_order s h j ≡ true
      at j a b = let e : j - 1 + 1 ≡ j = omega arith in rw e at (all-at h.transitions _ n.ordered (j - 1) (omega arith))

-- what each record keeps that a chain holds, the records 1 to k do
pub each-record : (s : List ℕ) (h : Header) → reached s h h.states ≡ list_below h.transitions suc → (P : ℕ → Type 0)
    → ((p : ℕ) → p < h.states → Every P (chain s h p)) → (i : ℕ) → i < h.transitions → P (suc i)
unfolding reached
each-record s h e P k i l =
    let a = rw e at (concat-keeps (chain s h) P h.states k) in
    rw (get_or-list_below 0 h.transitions suc i l) at (every-at P 0 (list_below h.transitions suc) i a (rw length-list_below l))

-- chains whose records' numbers rise are in normal form
pub is_normal : (s : List ℕ) (h : Header) → ReadableAs s h → reached s h h.states ≡ list_below h.transitions suc
    → ((p : ℕ) → p < h.states → Rising 0 (map (successor s h) (chain s h p))) → IsNormal s h
unfolding chain
is_normal s h g e r =
    let long = ap length e ∙ length-list_below h.transitions suc in
    let o =
    each-record s h e (λ x. in_order s h x ≡ true) (λ p l.
    let first = (first-known s h g.recorded p l).bound in
    rising-walk s h g (suc h.transitions) (state_record s h p).first 0 first (chain-short s h g long p l) (r p l)) in
    record { consecutive = e; ordered = all_of h.transitions _ (λ i l. rw (add-one i) (o i l)) }
