-- What `normal` writes of labels and a system that a sheet can hold is in normal form, and a sequence of bytes.
use Prim.Native.Nat.{ℕ, zero, suc, ◌+◌, ◌<◌}
use mathlib.Core.Path.{◌≡◌, refl, sym, ◌∙◌}
use mathlib.Core.Bool.{cond}
use mathlib.Core.List.{List, [], ◌∷◌, ◌++◌}
use native.Mathlib.Omega.{arith}
use native.Mathlib.Nat.{le_refl, add-zero, add-suc, suc-add}
use native.Mathlib.Numerals.{one-add}
use lib.ListN.{length}
use Rattle.lts.specs.Bounded.{list_below}
use Rattle.encoding.specs.declared.Header.{Header}
use Rattle.encoding.specs.declared.StateRecord.{StateRecord}
use Rattle.encoding.specs.declared.TransitionRecord.{TransitionRecord}
use Rattle.encoding.specs.Records.{two, header_bytes, state_bytes, transition_bytes, IsBytes}
use Rattle.encoding.specs.Labels.{Labelling, records_of}
use Rattle.lts.specs.System.{Lts}
use Rattle.lts.specs.Transitions.{Transition, transitions}
use Rattle.normal_form.specs.Normal.{normal_header, normal_state, normal_transition, states_bytes, transitions_bytes, sheet_bytes, normal}
use Rattle.normal_form.specs.NormalForm.{IsNormal, Encodable}
use Rattle.lts.proofs.Lists.{Every, every_append, every-at, every_more, concat-keeps}
use Rattle.lts.proofs.Transitions.{Sourced, all_keep}
use Rattle.transitions.proofs.Codes.{codes-up}
use Rattle.normal_form.proofs.Bytes.{Small, mark-small}
use Rattle.normal_form.proofs.Labelled.{records-small}
use Rattle.normal_form.proofs.NormalChains.{upto, reached-on, at-end}
use Rattle.normal_form.proofs.NormalSame.{chain-codes, normal-readable}
use Rattle.normal_form.proofs.Ordered.{is_normal}

-- ## In normal form
upto-list : (c j : ℕ) (f : ℕ → ℕ) → ((i : ℕ) → f i ≡ j + i) → upto j c ≡ list_below c f
unfolding upto list_below
upto-list zero j f e = refl
upto-list (suc c) j f e =
    let a : f 0 ≡ j = rw add-zero at (e 0) in
    let r = upto-list c (suc j) (λ i. f (suc i)) (λ i. e (suc i) ∙ rw (add-suc, suc-add)) in
    λ i. sym a i ∷ r i

-- ## Bytes
two-small : (x : ℕ) → Every Small (two x)
unfolding two Small
two-small x = (omega arith, (omega arith, tt))

header-small : (h : Header) → Every Small (header_bytes h)
unfolding header_bytes
header-small h =
    let first : ℕ = h.states + cond h.named 32768 0 in
    every_append Small (two first ++ two h.actions) (two h.transitions)
    (every_append Small (two first) (two h.actions) (two-small first) (two-small h.actions)) (two-small h.transitions)

state-small : (r : StateRecord) → r.mark < 256 → r.spare < 256 → Every Small (state_bytes r)
unfolding state_bytes Small
state-small r a b = (a, (b, two-small r.first))

transition-small : (r : TransitionRecord) → r.action < 256 → r.spare < 256 → Every Small (transition_bytes r)
unfolding transition_bytes Small
transition-small r a b =
    every_append Small (r.action ∷ r.spare ∷ two r.target) (two r.next) (a, (b, two-small r.target)) (two-small r.next)

transitions-small : (i : ℕ) (l : List Transition) → Every (λ x. x.action < 256) l → Every Small (transitions_bytes i l)
unfolding transitions_bytes normal_transition
transitions-small i [] e = tt
transitions-small i (x ∷ l) e =
    every_append Small (transition_bytes (normal_transition i x l)) (transitions_bytes (suc i) l)
    (transition-small (normal_transition i x l) e.0 (omega arith)) (transitions-small (suc i) l e.1)

module _ (K : Labelling) (L : Lts) (w : Encodable K L) where
  pub normal-is : IsNormal (normal K L) (normal_header K.named L)
  normal-is =
      is_normal (normal K L) (normal_header K.named L) (normal-readable K L w)
      (reached-on K L w L.states (le_refl _) ∙ rw (at-end K L w) (upto-list (length (transitions L)) 1 suc (λ i. sym (one-add i))))
      (λ p l. rw (chain-codes K L w p l) (codes-up L w.bounds.states p))

  pub normal-bytes : IsBytes (normal K L)
  unfolding normal sheet_bytes transitions states_bytes normal_state Small
  normal-bytes i l = every-at Small 0 (normal K L) i all l
    where
      actions : Every (λ x. x.action < 256) (transitions L)
      actions =
          every_more (Sourced L L.states) (λ x. x.action < 256) (transitions L)
          (λ x v.
          let a = v.valid.high in
          let b = w.bounds in
          omega (arith, a, b)) (all_keep L L.states)

      front : Every Small (header_bytes (normal_header K.named L) ++ records_of K)
      front = every_append Small (header_bytes (normal_header K.named L)) (records_of K) (header-small (normal_header K.named L))
          (records-small K L.actions w.labelled)

      all : Every Small (normal K L)
      all =
          every_append Small (header_bytes (normal_header K.named L) ++ records_of K ++ states_bytes L L.states) (transitions_bytes 1 (transitions L))
          (every_append Small (header_bytes (normal_header K.named L) ++ records_of K) (states_bytes L L.states) front
          (concat-keeps _ Small L.states (λ p u. state-small (normal_state L p) (mark-small (L.terminating p)) (omega arith))))
          (transitions-small 1 (transitions L) actions)
