-- The second sheet's actions by the joined labels: what the loader of two sheets asks, and that it loads the joined flow.
use Prim.Native.Nat.{ℕ, ◌≤◌}
use native.Mathlib.Omega.{arith}
use mathlib.Core.Path.{◌≡◌, refl, sym, ap, ap₂, subst, ◌∙◌}
use mathlib.Core.List.{List}
use lib.ListN.{length, get_or}
use Rattle.lts.specs.System.{Lts}
use Rattle.lts.specs.Mapped.{mapped}
use Rattle.lts.specs.Union.{disjoint_union}
use Rattle.lts.specs.Labels.{joined_labels, joined_action, joined_second}
use Rattle.lts.proofs.Mapped.{mapped-cong}
use Rattle.lts.proofs.Labels.{joined_length, joined-second}
use Rattle.encoding.specs.declared.Header.{Header}
use Rattle.encoding.specs.Labels.{labels_in}
use Rattle.encoding.specs.Denotation.{lts_of}
use Rattle.encoding.proofs.Labels.{labels_length_lem}
use Rattle.encoding.proofs.Denotation.{lts-states, lts-actions}
use Rattle.transitions.specs.Table.{Holds}
use Rattle.labels.specs.Maps.{Matches}
use Rattle.inputs.specs.Both.{joined_lts, Joinable}

module _ {first second to : List ℕ} {h g : Header} {m : ℕ} (j : Joinable first h second g m)
    (k : Matches (labels_in first h) (labels_in second g) g.actions to) where
  abbrev A : List (List ℕ)
  A = labels_in first h

  abbrev B : List (List ℕ)
  B = labels_in second g

  -- the first's actions are among the joined ones
  pub own-actions : h.actions ≤ m
  own-actions = let c = j.count in let l = joined_length A B in let n = labels_length_lem first h in omega (arith, c, l, n)

  -- the second's go to joined ones
  pub sent-actions : (b : ℕ) → 1 ≤ b → b ≤ g.actions → (1 ≤ get_or to b 0) × (get_or to b 0 ≤ m)
  sent-actions b l u =
      let n = labels_length_lem second g in
      let s = joined-second A B b l (omega (arith, n, u)) in
      let e = k.action b l u in
      let c = j.count in
      (omega (arith, e, s.0), omega (arith, e, s.1, c))

  -- what is loaded is the joined flow
  joined-loaded : disjoint_union (lts_of first) (mapped g.states m (λ p. p) (λ b. get_or to b 0) (lts_of second)) ≡ joined_lts first second
  unfolding joined_second
  joined-loaded =
      let M = lts_of second in
      let n = lts-states second g j.two.header in
      let a = lts-actions second g j.two.header in
      let image : mapped g.states m (λ p. p) (λ b. get_or to b 0) M ≡ mapped M.states (length (joined_labels A B)) (λ p. p) (joined_action A B) M =
      ap₂ (λ (x y : ℕ). mapped x y (λ p. p) (λ b. get_or to b 0) M) (sym n) j.count
      ∙ mapped-cong M.states (length (joined_labels A B)) (λ p. p) (λ b. get_or to b 0) (λ p. p) (joined_action A B) M (λ p _. refl)
      (λ b l u. k.action b l (omega (arith, a, u))) in
      ap (disjoint_union (lts_of first)) image
      ∙ ap₂ (λ (x y : Header). disjoint_union (lts_of first) (joined_second (labels_in first x) (labels_in second y) M)) j.one.header j.two.header

  pub joined-holds : {t : List ℕ} → Holds (disjoint_union (lts_of first) (mapped g.states m (λ p. p) (λ b. get_or to b 0) (lts_of second))) t
      → Holds (joined_lts first second) t
  joined-holds {t} = subst (λ (L : Lts). Holds L t) joined-loaded
