-- The Lts of a readable encoding, by its header: a transition is an action and target on a chain, and the Lts is well-formed.
use Prim.Native.Nat.{ℕ, zero, suc, ◌+◌, ◌*◌, ◌≤◌, ◌<◌}
use mathlib.Core.Path.{◌≡◌, refl, sym, ◌∙◌}
use mathlib.Core.Bool.{Bool, true, false, cond, ◌&&◌, false≢true, and-false, and-eq-true_iff}
use mathlib.Core.List.{List, [], ◌∷◌, map}
use native.Mathlib.Omega.{arith}
use native.Mathlib.Decide.{ℕ_discrete}
use borrow.Author.Tests.{eq-eqb, ne_eqb, eqb-true, lt-ltb, le-ltb, ltb-true, leb-true}
use lib.Dec.{ltb, eqb}
use Rattle.lts.specs.System.{WellFormed}
use Rattle.encoding.specs.declared.Header.{Header}
use Rattle.encoding.specs.Records.{header_of, state_record, transition_record}
use Rattle.encoding.specs.Encoding.{state_fits, states_fit, chain, member, successor}
use Rattle.encoding.specs.Checked.{ReadableAs}
use Rattle.encoding.specs.Denotation.{any, lts_of}
use Rattle.lts.proofs.Below.{T_true, all-at}
use Rattle.lts.proofs.Lists.{Every}
use Rattle.encoding.proofs.Chains.{transition-known, chain-all}

-- ## An action and a target as one number
pair : (a t b u : ℕ) → t < 256 → u < 256 → eqb (256 * a + t) (256 * b + u) ≡ (eqb b a && eqb u t)
pair a t b u l k = go (ℕ_discrete b a) (ℕ_discrete u t)
  where
    go : Dec (b ≡ a) → Dec (u ≡ t) → eqb (256 * a + t) (256 * b + u) ≡ (eqb b a && eqb u t)
    go (yes e) (yes f) = rw (eq-eqb (256 * a + t) (256 * b + u) (omega arith), eq-eqb b a e, eq-eqb u t f)
    go (yes e) (no f) = rw (ne_eqb (256 * a + t) (256 * b + u) (λ x. f (omega arith)), ne_eqb u t f, and-false)
    go (no e) f = rw (ne_eqb (256 * a + t) (256 * b + u) (λ x. e (omega arith)), ne_eqb b a e)

any-member : (s : List ℕ) (h : Header) (a t : ℕ) (l : List ℕ) → t < 256 → Every (λ j. (transition_record s h j).target < 256) l
    → any (λ j. eqb (transition_record s h j).action a && eqb (transition_record s h j).target t) l ≡ member (256 * a + t) (map (successor s h) l)
unfolding any member successor
any-member s h a t [] k n = refl
any-member s h a t (j ∷ l) k n = rw (any-member s h a t l k n.1, pair a t (transition_record s h j).action (transition_record s h j).target k n.0)

-- ## The parts of the Lts
module _ (s : List ℕ) (h : Header) (e : h ≡ header_of s) where
  pub lts-states : (lts_of s).states ≡ h.states
  unfolding lts_of
  lts-states = rw e

  pub lts-actions : (lts_of s).actions ≡ h.actions
  unfolding lts_of
  lts-actions = rw e

  pub lts-terminating : (p : ℕ) → (lts_of s).terminating p ≡ (ltb p h.states && eqb (state_record s h p).mark 1)
  unfolding lts_of
  lts-terminating p = rw e

  -- no number from n on is terminating
  pub lts-ends : (p : ℕ) → (lts_of s).states ≤ p → (lts_of s).terminating p ≡ false
  lts-ends p l = let z = le-ltb p h.states (omega (arith, l, lts-states)) in rw (lts-terminating p, z)

  pub lts-transition : (p a t : ℕ) → (lts_of s).transition p a t
      ≡ (ltb p h.states && any (λ j. eqb (transition_record s h j).action a && eqb (transition_record s h j).target t) (chain s h p))
  unfolding lts_of
  lts-transition p a t = rw e

module _ (s : List ℕ) (h : Header) (g : ReadableAs s h) where
  -- a transition is an action and target on the chain
  pub transition-member : (p a t : ℕ) → p < h.states → t < h.states
      → (lts_of s).transition p a t ≡ member (256 * a + t) (map (successor s h) (chain s h p))
  transition-member p a t l u =
      let b = g.recorded.sized.bounds in
      let n = chain-all s h g.recorded (λ j. (transition_record s h j).target < 256) (λ j x y. let r = transition-known s h g.recorded j x y in omega arith) p l in
      rw (lts-transition s h g.header p a t, lt-ltb p h.states l)
      (any-member s h a t (chain s h p) (omega arith) n)

  -- the end mark is the byte 0 or 1
  pub mark-byte : (p : ℕ) → p < h.states → (state_record s h p).mark ≡ cond ((lts_of s).terminating p) 1 0
  unfolding states_fit state_fits
  mark-byte p l =
      let q = simp and-eq-true_iff at (all-at h.states _ g.recorded.states p l) in
      rw (lts-terminating s h g.header p, lt-ltb p h.states l) (go (state_record s h p).mark (omega (arith, leb-true)))
    where
      go : (e : ℕ) → e ≤ 1 → e ≡ cond (eqb e 1) 1 0
      go zero k = refl
      go (suc zero) k = refl
      go (suc (suc e)) k = absurd (omega arith)

-- ## Well-formed
any-known : (R : ℕ → Type 0) (t : ℕ → Bool) (P : Type 0) (l : List ℕ) → Every R l → ((j : ℕ) → R j → t j ≡ true → P) → any t l ≡ true → P
unfolding any
any-known R t P [] r k e = absurd (false≢true e)
any-known R t P (x ∷ l) r k e = go (any-known R t P l r.1 k) (t x) refl
  where
    go : (any t l ≡ true → P) → (b : Bool) → t x ≡ b → P
    go i true q = k x r.0 q
    go i false q = i (rw q at e)

pub record Sound (h : Header) (p a t : ℕ) : Type 0 where
  pub source : p < h.states
  pub low : 1 ≤ a
  pub high : a ≤ h.actions
  pub target : t < h.states

pub sound : (s : List ℕ) (h : Header) → ReadableAs s h → (p a t : ℕ) → (lts_of s).transition p a t ≡ true → Sound h p a t
sound s h g p a t e =
    let q = (and-eq-true_iff _ _).0 (sym (lts-transition s h g.header p a t) ∙ e) in
    let l = ltb-true p h.states q.0 in
    any-known (λ j. (1 ≤ j) × (j ≤ h.transitions)) _ (Sound h p a t) (chain s h p) (chain-all s h g.recorded (λ j. (1 ≤ j) × (j ≤ h.transitions)) (λ j u v. (u, v)) p l)
    (λ j r x.
    let m = transition-known s h g.recorded j r.0 r.1 in
    let y = (and-eq-true_iff (eqb (transition_record s h j).action a) (eqb (transition_record s h j).target t)).0 x in
    let ya = eqb-true (transition_record s h j).action a y.0 in
    let yt = eqb-true (transition_record s h j).target t y.1 in
    record { source = l; low = omega (arith, m, ya); high = omega (arith, m, ya); target = omega (arith, m, yt) })
    q.1

-- the Lts of a readable encoding is well-formed
pub well-formed : (s : List ℕ) (h : Header) → ReadableAs s h → WellFormed (lts_of s)
well-formed s h g = record {
  source = λ p a t x. let k = sound s h g p a t (T_true _ x) in rw (lts-states s h g.header) k.source;
  action = λ p a t x. let k = sound s h g p a t (T_true _ x) in rw (lts-actions s h g.header) (k.low, k.high);
  target = λ p a t x. let k = sound s h g p a t (T_true _ x) in rw (lts-states s h g.header) k.target;
}
