-- The normal form of labels and a system that a sheet can hold is readable, with the system's counts and the kind as header, and denotes the system.
use Prim.Native.Nat.{ℕ, zero, suc, ◌+◌, ◌*◌, ◌≤◌, ◌<◌}
use mathlib.Core.Path.{◌≡◌, refl, sym, ap, ◌∙◌, fun_ext}
use mathlib.Core.Bool.{Bool, true, false, cond}
use mathlib.Core.List.{map}
use native.Mathlib.Omega.{arith}
use native.Mathlib.Nat.{not-suc-le-zero, add-zero}
use native.Mathlib.Decide.{dec_lt}
use borrow.Author.Tests.{lt-ltb}
use lib.ListN.{length}
use lib.Dec.{T, eqb}
use Rattle.encoding.specs.declared.Header.{Header}
use Rattle.encoding.specs.Encoding.{chain, member, successor, successors_fit}
use Rattle.encoding.specs.Denotation.{lts_of}
use Rattle.encoding.specs.Labels.{Labelling}
use Rattle.lts.specs.System.{Lts}
use Rattle.lts.specs.Transitions.{transitions_of}
use Rattle.normal_form.specs.Normal.{normal_header, normal}
use Rattle.normal_form.specs.NormalForm.{Encodable}
use Rattle.encoding.specs.Checked.{ReadableAs}
use Rattle.lts.proofs.Bounded.{test-ext}
use Rattle.lts.proofs.Below.{all_of, T_true, true-T}
use Rattle.encoding.proofs.Denotation.{lts-states, lts-actions, lts-terminating, lts-ends, transition-member, sound}
use Rattle.transitions.proofs.Codes.{code, codes-distinct, codes-in, codes-out}
use Rattle.normal_form.proofs.NormalReads.{normal-header}
use Rattle.normal_form.proofs.NormalLabels.{labels-ok}
use Rattle.normal_form.proofs.NormalChains.{recorded, chains-ok, successors-on, chain-on, state-is}

module _ (K : Labelling) (L : Lts) (w : Encodable K L) where
  abbrev h : Header
  h = normal_header K.named L

  -- ## Rule 6
  pub chain-codes : (p : ℕ) → p < L.states → map (successor (normal K L) h) (chain (normal K L) h p) ≡ map code (transitions_of L p)
  chain-codes p l = rw (chain-on K L w p l) (rw add-zero at (successors-on K L w p l (length (transitions_of L p)) 0 (omega arith)))

  successors-ok : successors_fit (normal K L) h ≡ true
  unfolding successors_fit
  successors-ok = all_of L.states _ (λ p l. rw (chain-codes p l) (codes-distinct L w.bounds.states p))

  pub normal-readable : ReadableAs (normal K L) (normal_header K.named L)
  normal-readable = record {
    recorded = recorded K L w;
    header = sym (normal-header K L w);
    labels = labels-ok K L w;
    chains = chains-ok K L w;
    successors = successors-ok;
  }

  -- ## The same Lts
  same-transition : (p a t : ℕ) → (lts_of (normal K L)).transition p a t ≡ L.transition p a t
  same-transition p a t = test-ext _ _ forth (back a)
    where
      forth : T ((lts_of (normal K L)).transition p a t) → T (L.transition p a t)
      forth x =
          let e = T_true _ x in
          let k = sound (normal K L) h normal-readable p a t e in
          let b = w.bounds.states in
          let on = transition-member (normal K L) h normal-readable p a t k.source k.target in
          true-T _ (codes-out L b p a t (omega (arith, k, b)) (sym (ap (member (256 * a + t)) (chain-codes p k.source)) ∙ (sym on ∙ e)))

      back : (a : ℕ) → T (L.transition p a t) → T ((lts_of (normal K L)).transition p a t)
      back zero x = absurd (not-suc-le-zero (w.formed.action p zero t x).0)
      back (suc a) x =
          let l = w.formed.source p (suc a) t x in
          let to = w.formed.target p (suc a) t x in
          let high = (w.formed.action p (suc a) t x).1 in
          true-T _
          (transition-member (normal K L) h normal-readable p (suc a) t l to
          ∙ (ap (member (256 * suc a + t)) (chain-codes p l) ∙ codes-in L w.bounds.states p a t high to (T_true _ x)))

  same-terminating : (p : ℕ) → (lts_of (normal K L)).terminating p ≡ L.terminating p
  same-terminating p = go (dec_lt p L.states)
    where
      mark : (b : Bool) → eqb (cond b 1 0) 1 ≡ b
      mark true = refl
      mark false = refl

      go : Dec (p < L.states) → (lts_of (normal K L)).terminating p ≡ L.terminating p
      go (yes l) =
          lts-terminating (normal K L) h normal-readable.header p
          ∙ rw (lt-ltb p L.states l) (ap (λ r. eqb r.mark 1) (state-is K L w p l) ∙ mark (L.terminating p))
      go (no l) =
          let out : L.states ≤ p = omega (arith, l) in
          let n = lts-states (normal K L) h normal-readable.header in
          lts-ends (normal K L) h normal-readable.header p (omega (arith, out, n)) ∙ sym (w.ends p out)

  pub same : lts_of (normal K L) ≡ L
  same =
      let states = lts-states (normal K L) h normal-readable.header in
      let actions = lts-actions (normal K L) h normal-readable.header in
      λ i.
      record {
        states = states i;
        actions = actions i;
        terminating = fun_ext same-terminating i;
        transition = fun_ext (λ p. fun_ext (λ a. fun_ext (λ t. same-transition p a t))) i;
      }
