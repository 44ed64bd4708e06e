-- The refusal of an encoding whose chains do not fit: a record on no chain, or one that two indices name.
use Prim.Native.Nat.{ℕ, ◌+◌, ◌≤◌, ◌<◌}
use mathlib.Core.Path.{◌≡◌, refl, sym, ◌∙◌}
use mathlib.Core.Bool.{true, false, not}
use mathlib.Core.List.{List}
use mathlib.Core.Logic.{⊎_elim}
use native.Mathlib.Omega.{arith}
use borrow.Author.Tests.{eq-eqb, ne_eqb}
use lib.ListN.{drop}
use lib.Dec.{eqb}
use Rattle.lts.specs.Bounded.{lowest}
use Rattle.lts.specs.Rule.{First, broken}
use Rattle.lts.specs.declared.Refusal.TheVariants.{Unreached, ReachedTwice}
use Rattle.lts.proofs.Below.{clash, either}
use Rattle.lts.proofs.Rule.{stop, pass}
use Rattle.encoding.specs.declared.Header.{Header}
use Rattle.encoding.specs.Encoding.{on_some_chain, all_reached, named_twice, none_twice, headed_rules}
use Rattle.encoding.specs.Checked.{Recorded, chains_fit}
use Rattle.reader.proofs.Lowest.{lowest-most, lowest-all}
use Rattle.encoding.proofs.Naming.{none-twice-distinct}

module _ (s : List ℕ) (h : Header) {i : ℕ} (e : i ≡ lowest h.transitions (λ x. not (on_some_chain s h (x + 1)))) where
  reached-test : all_reached s h ≡ eqb i h.transitions
  unfolding all_reached
  reached-test = rw e (sym (lowest-all h.transitions (λ x. on_some_chain s h (x + 1))))

  pub unreached-refused : i < h.transitions → broken (drop 6 (headed_rules s h)) ≡ First (Unreached (i + 1))
  unfolding headed_rules
  unreached-refused l = rw e (stop _ _ _ refl (sym (reached-test ∙ ne_eqb i h.transitions (λ q. omega (arith, q, l)))) refl)

  module _ (g : Recorded s h) (f : chains_fit s h ≡ false) (u : h.transitions ≤ i) where
    all-reached : all_reached s h ≡ true
    all-reached = reached-test ∙ eq-eqb i h.transitions (let l = lowest-most _ _ e in omega (arith, l, u))

    -- the chains hold a record twice, so two indices name one
    some-twice : none_twice s h ≡ false
    unfolding chains_fit
    some-twice =
        ⊎_elim (λ t. absurd (clash {b = chains_fit s h} (rw (none-twice-distinct s h g t, all-reached)) f)) (λ t. t) (either (none_twice s h))

    pub twice-refused : {j : ℕ} → j ≡ lowest h.transitions (λ x. named_twice s h (x + 1)) → broken (drop 6 (headed_rules s h)) ≡ First (ReachedTwice (j + 1))
    unfolding headed_rules
    twice-refused d = rw d (stop _ _ _ (pass _ _ _ refl (sym all-reached) refl) (sym some-twice) refl)
