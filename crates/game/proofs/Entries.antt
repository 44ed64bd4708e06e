-- The turns of the bounded game on a transition table: a search of one state's row says what the definitions do of all transitions.
use Prim.Native.Nat.{ℕ, zero, suc, ◌+◌, ◌-◌, ◌<◌, ◌≤◌}
use mathlib.Core.Path.{◌≡◌, refl, subst}
use mathlib.Core.Bool.{Bool, true, false, ◌&&◌}
use mathlib.Core.List.{List}
use native.Mathlib.Nat.{not-suc-le-zero}
use native.Mathlib.Numerals.{sub-one}
use lib.Dec.{T}
use Rattle.lts.specs.Bounded.{◌⇒◌}
use Rattle.lts.specs.System.{Rel, Lts, any_action, any_state}
use Rattle.lts.specs.Game.{defender_loses, challenger_wins}
use Rattle.lts.proofs.Bounded.{and-iff, imp-iff, test-ext}
use Rattle.lts.proofs.Below.{T_true, true-T}
use Rattle.lts.proofs.System.{any-action-to, any-action-from, any-state-iff, all-state-iff}
use Rattle.transitions.specs.Table.{states_of, offset_at, action_at, target_at, table_lts, Formed}
use Rattle.transitions.proofs.Entries.{Between, table-formed, row-transition, transition-row}

fails : (b : Bool) → (T b → ⊥) → b ≡ false
fails b f = test-ext b false f (λ x. absurd x)

-- the challenger has won outside the start, and has not inside it with no rounds left
pub wins-outside : (L : Lts) (start : Rel) (rounds p q : ℕ) → start p q ≡ false → challenger_wins L start rounds p q ≡ true
unfolding challenger_wins
wins-outside L start zero p q e = rw e
wins-outside L start (suc k) p q e = rw e

pub wins-over : (L : Lts) (start : Rel) (rounds p q : ℕ) → start p q ≡ true → rounds ≡ 0 → challenger_wins L start rounds p q ≡ false
unfolding challenger_wins
wins-over L start rounds p q e z = rw (z, e)

-- some transition of p has every reply lost
pub beaten : Lts → Rel → ℕ → ℕ → Bool
beaten L won p q = any_action L (λ a. any_state L (λ t. L.transition p a t && defender_loses L won q a t))

pub wins-more : (L : Lts) (start : Rel) (rounds p q : ℕ) → start p q ≡ true → 0 < rounds
    → challenger_wins L start rounds p q ≡ beaten L (challenger_wins L start (rounds - 1)) p q
unfolding challenger_wins beaten
wins-more L start zero p q e h = absurd (not-suc-le-zero h)
wins-more L start (suc k) p q e h = rw (e, sub-one)

-- after transition i every reply of q is lost
abbrev pub lost : List ℕ → Rel → ℕ → ℕ → Bool
lost t won q i = defender_loses (table_lts t) won q (action_at t i) (target_at t i)

module _ (t : List ℕ) (ok : Formed t) (won : Rel) where
  abbrev L : Lts
  L = table_lts t

  module _ (p q : ℕ) (hp : p < states_of t) where
    -- a transition of p with every reply lost
    pub beaten-by : (i : ℕ) → offset_at t p ≤ i → i < offset_at t (p + 1) → lost t won q i ≡ true → beaten L won p q ≡ true
    unfolding beaten
    beaten-by i l h e =
        let a = action_at t i in
        let r = target_at t i in
        let u = true-T (L.transition p a r) (row-transition t ok p hp i (l, h) refl refl) in
        let wf = table-formed t ok in
        let f : ℕ → ℕ → Bool = λ a r. L.transition p a r && defender_loses L won q a r in
        T_true (beaten L won p q)
        (any-action-from L (λ a. any_state L (f a)) a (wf.action p a r u)
        ((any-state-iff L (f a)).1 (r, wf.target p a r u, (and-iff (L.transition p a r) (defender_loses L won q a r)).1 (u, true-T _ e))))

    -- no transition of p has every reply lost
    pub not-beaten : Between (λ i. lost t won q i ≡ false) (offset_at t p) (offset_at t (p + 1)) → beaten L won p q ≡ false
    unfolding beaten
    not-beaten none = fails (beaten L won p q) (λ e.
        let a = any-action-to L (λ a. any_state L (λ r. L.transition p a r && defender_loses L won q a r)) e in
        let r = (any-state-iff L (λ r. L.transition p a.0 r && defender_loses L won q a.0 r)).0 a.1 in
        let c = (and-iff (L.transition p a.0 r.0) (defender_loses L won q a.0 r.0)).0 r.2 in
        let i = transition-row t ok p hp a.0 r.0 (T_true _ c.0) in
        subst T (rw (i.2, i.3) at (none i.0 i.1.0 i.1.1)) c.1)

  module _ (q a r : ℕ) (hq : q < states_of t) where
    -- a reply that is not lost
    pub saved-by : (j : ℕ) → offset_at t q ≤ j → j < offset_at t (q + 1) → action_at t j ≡ a → won r (target_at t j) ≡ false → defender_loses L won q a r ≡ false
    unfolding defender_loses
    saved-by j l h e w =
        let s = target_at t j in
        let u = true-T (L.transition q a s) (row-transition t ok q hq j (l, h) e refl) in
        fails (defender_loses L won q a r) (λ d.
        subst T w
        ((imp-iff (L.transition q a s) (won r s)).0
        ((all-state-iff L (λ s. L.transition q a s ⇒ won r s)).0 d s ((table-formed t ok).target q a s u)) u))

    -- every reply is lost
    pub not_saved : Between (λ j. action_at t j ≡ a → won r (target_at t j) ≡ true) (offset_at t q) (offset_at t (q + 1)) → defender_loses L won q a r ≡ true
    unfolding defender_loses
    not_saved all =
        T_true (defender_loses L won q a r)
        ((all-state-iff L (λ s. L.transition q a s ⇒ won r s)).1 (λ s _.
        (imp-iff (L.transition q a s) (won r s)).1 (λ u.
        let j = transition-row t ok q hq a s (T_true _ u) in
        true-T _ (rw j.3 at (all j.0 j.1.0 j.1.1 j.2)))))
