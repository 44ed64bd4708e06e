-- A readable encoding's Lts has as many transitions as the encoding has records.
use Rattle.encoding.proofs.Chains.{chain-all, reached-all, transition-known, successors-below, reached-below}
use Prim.Native.Nat.{ℕ, zero, suc, ◌+◌, ◌*◌, ◌≤◌, ◌<◌, ◌%◌}
use mathlib.Core.Path.{◌≡◌, refl, sym, ap, ◌∙◌}
use mathlib.Core.Bool.{Bool, false, and-eq-true_iff}
use mathlib.Core.List.{List, map}
use native.Mathlib.Omega.{arith}
use native.Mathlib.Nat.{le_refl, add_comm}
use native.Mathlib.Numerals.{add-one}
use lib.ListN.{length, length-append, length-map}
use Rattle.encoding.specs.declared.Header.{Header}
use Rattle.encoding.specs.Records.{transition_record}
use Rattle.encoding.specs.Encoding.{chain, reached, member, distinct, successor, all_reached, on_some_chain, successors_fit}
use Rattle.encoding.specs.Checked.{ReadableAs, TransitionKnown, chains_fit}
use Rattle.encoding.specs.Denotation.{lts_of}
use Rattle.lts.specs.Bounded.{passing, concat_below}
use Rattle.lts.specs.Transitions.{transitions_by, transitions_of, transitions_below}
use Rattle.lts.proofs.Count.{passing-shorter}
use Rattle.lts.proofs.Below.{all-at}
use Rattle.lts.proofs.Lists.{Every, every_map, passing-zero, passing-all, passing-add, passing-same}
use Rattle.lts.proofs.Transitions.{to-length, by-none, by-more, by_all}
use Rattle.encoding.proofs.Members.{distinct-count, member-keeps}
use Rattle.encoding.proofs.Denotation.{lts-states, lts-actions, transition-member}

-- ## The actions and targets on a chain
-- an action from 1 to m and a target below n, as one number
pub record Good (h : Header) (x : ℕ) : Type 0 where
  pub low : 256 ≤ x
  pub high : x < 256 * (h.actions + 1)
  pub target : x % 256 < h.states

module _ (s : List ℕ) (h : Header) (g : ReadableAs s h) where
  pub good-successors : (p : ℕ) → p < h.states → Every (Good h) (map (successor s h) (chain s h p))
  unfolding successor
  good-successors p l =
      every_map (Good h) (successor s h) (chain s h p)
      (chain-all s h g.recorded (λ j. Good h (successor s h j)) (λ j a b. good (transition-known s h g.recorded j a b)) p l)
    where
      good : {j : ℕ} → TransitionKnown s h j (transition_record s h j) → Good h (256 * (transition_record s h j).action + (transition_record s h j).target)
      good r =
          let b = g.recorded.sized.bounds in
          record { low = omega arith; high = omega arith; target = omega arith }

  module _ (p : ℕ) (l : p < h.states) where
    successors : List ℕ
    successors = map (successor s h) (chain s h p)

    is-successor : ℕ → Bool
    is-successor x = member x successors

    no-successor : (x : ℕ) → (Good h x → ⊥) → is-successor x ≡ false
    unfolding is-successor successors
    no-successor x n = member-keeps (Good h) x successors (good-successors p l) n

    -- the transitions by one action
    row : (a : ℕ) → length (passing (lts_of s).states ((lts_of s).transition p a)) ≡ length (passing 256 (λ t. is-successor (256 * a + t)))
    unfolding is-successor successors
    row a =
        let b = g.recorded.sized.bounds in
        let cut =
        ap length (passing-shorter h.states 256 (λ t. is-successor (256 * a + t)) (omega arith)
        (λ t u v. no-successor (256 * a + t) (λ q. let z = q.target in omega (arith, z)))) in
        rw (
          lts-states s h g.header,
          passing-same h.states ((lts_of s).transition p a) (λ t. is-successor (256 * a + t)) (λ t u. transition-member s h g p a t l u),
        )
        (sym cut)

    -- the transitions by the actions up to a are the successors below 256 * (a + 1)
    by-successors : (a : ℕ) → a ≤ h.actions → length (transitions_by (lts_of s) p a) ≡ length (passing (256 * (a + 1)) is-successor)
    by-successors zero k = rw by-none (sym (passing-zero 256 is-successor (λ i u. no-successor i (λ q. let z = q.low in omega (arith, z)))))
    by-successors (suc a) k =
        let e : 256 * (a + 1 + 1) ≡ 256 * (a + 1) + 256 = omega arith in
        rw (← add-one a, e, by-more, length-append, to-length, by-successors a (omega arith), row (a + 1), passing-add)

    transitions-count : length (transitions_of (lts_of s) p) ≡ length (chain s h p)
    unfolding is-successor successors successors_fit chain
    transitions-count =
        let b = g.recorded.sized.bounds in
        let cut =
        ap length (passing-shorter (256 * (h.actions + 1)) 16640 is-successor (omega arith)
        (λ x u v. no-successor x (λ q. let z = q.high in omega (arith, z)))) in
        let d = all-at h.states _ g.successors p l in
        let k = successors-below s h g.recorded p l in
        let whole = by_all (lts_of s) p h.actions (sym (lts-actions s h g.header)) in
        rw (← whole, by-successors h.actions (le_refl _), ← cut)
        (distinct-count 16640 successors d k ∙ length-map (chain s h p) (successor s h))

  reached-count : (p : ℕ) → p ≤ h.states → length (transitions_below (lts_of s) p) ≡ length (reached s h p)
  unfolding reached transitions_below concat_below
  reached-count zero l = refl
  reached-count (suc p) l = rw (length-append, length-append, reached-count p (omega arith), transitions-count p l)

  -- the law: as many transitions as records
  pub all-count : length (transitions_below (lts_of s) h.states) ≡ h.transitions
  unfolding chains_fit all_reached on_some_chain
  all-count =
      let b = g.recorded.sized.bounds in
      let r = reached s h h.states in
      let f : ℕ → Bool = λ x. member x r in
      let on = (and-eq-true_iff (distinct r) _).0 g.chains in
      let d = distinct-count 1025 r on.0 (reached-below s h g.recorded) in
      let known = reached-all s h g.recorded (λ x. (1 ≤ x) × (x ≤ h.transitions)) (λ j u v. (u, v)) in
      let out = member-keeps (λ x. (1 ≤ x) × (x ≤ h.transitions)) in
      let cut = ap length (passing-shorter (1 + h.transitions) 1025 f (omega arith) (λ x u v. out x r known (λ q. let z = q.1 in omega (arith, z)))) in
      let zero-out = passing-zero 1 f (λ x u. out x r known (λ q. let z = q.0 in omega (arith, z))) in
      let full = passing-all h.transitions (λ t. f (1 + t)) (λ i u. rw (add_comm 1 i) (all-at h.transitions _ on.1 i u)) in
      let sum = passing-add 1 h.transitions f in
      reached-count h.states (le_refl _) ∙ sym d ∙ cut ∙ sum ∙ rw (zero-out, full) (omega arith)
