-- The tests of the loops over a state's transitions. Assumes nothing.
use Prim.Native.Nat.{ℕ, ◌+◌, ◌*◌, ◌≤◌, ◌<◌}
use mathlib.Core.Path.{◌≡◌, refl, sym, ◌∙◌, ap, ap₂}
use mathlib.Core.Bool.{Bool, true, false, ◌&&◌, ◌||◌}
use mathlib.Core.List.{List}
use native.Mathlib.Omega.{arith}
use lib.Dec.{eqb}
use lib.ListN.{get_or}
use borrow.Author.Tests.{eq-eqb, ne_eqb, lt-ltb, le-ltb}
use Rattle.lts.specs.Bounded.{◌⇒◌}
use Rattle.lts.specs.System.{Rel, Lts, all_states}
use Rattle.lts.proofs.Below.{all_yes, all-not, any-yes, any-no}
use Rattle.lts.specs.Game.{defender_loses}
use Rattle.transitions.specs.Table.{states_of, offset_at, action_at, target_at, table_lts, Formed}
use Rattle.transitions.proofs.Entries.{InRow, Between, row_below, row-transition, transition-row}
use Rattle.relation.specs.Matrix.{relation_of}
use Rattle.transitions.proofs.Lookups.{no_target}
use Rattle.strategy_check.specs.Entries.{holds_pair, held_before, replies_held, outside, sound_over}

implies-of : (a b : Bool) → (a ≡ true → b ≡ true) → (a ⇒ b) ≡ true
implies-of true b f = f refl
implies-of false b f = refl

implies-use : (a b : Bool) → (a ⇒ b) ≡ true → a ≡ true → b ≡ true
implies-use a b e p = sym (ap (λ (x : Bool). x ⇒ b) p) ∙ e

-- entry j before number e holds the pair; no entry does
pub held_at : (xs : List ℕ) (e t r j : ℕ) → j < e → holds_pair xs t r j ≡ true → held_before xs e t r ≡ true
unfolding held_before
held_at xs e t r j l h = sym (any-yes e (holds_pair xs t r) j l h)

pub held_none : (xs : List ℕ) (e t r : ℕ) → ((j : ℕ) → j < e → holds_pair xs t r j ≡ false) → held_before xs e t r ≡ false
unfolding held_before
held_none xs e t r h = sym (any-no e (holds_pair xs t r) h)

-- number i is no transition by a, or an entry before number e holds (t, r), r its target
unfoldable pub covers : List ℕ → List ℕ → ℕ → ℕ → ℕ → ℕ → Bool
covers table xs e a t i = eqb (action_at table i) a ⇒ held_before xs e t (target_at table i)

module _ (table xs : List ℕ) (e a t i : ℕ) where
  pub covers-other : (action_at table i ≡ a → ⊥) → covers table xs e a t i ≡ true
  unfolding covers
  covers-other h = rw (ne_eqb _ _ h)

  pub covers-held : {r : ℕ} → r ≡ target_at table i → held_before xs e t r ≡ true → covers table xs e a t i ≡ true
  unfolding covers
  covers-held w h = implies-of (eqb (action_at table i) a) _ (λ _. ap (held_before xs e t) (sym w) ∙ h)

module _ (table : List ℕ) (ok : Formed table) (q : ℕ) (hq : q < states_of table) where
  abbrev L : Lts
  L = table_lts table

  -- all of the row covered, and one of it not
  pub replies-held : (xs : List ℕ) (e a t : ℕ) → Between (λ i. covers table xs e a t i ≡ true) (offset_at table q) (offset_at table (q + 1))
      → true ≡ replies_held L xs e q a t
  unfolding replies_held defender_loses all_states covers table_lts
  replies-held xs e a t h =
      all_yes (states_of table) _ (λ r l. implies-of (L.transition q a r) (held_before xs e t r) (λ u.
      let i = transition-row table ok q hq a r u in
      ap (held_before xs e t) (sym i.3) ∙ implies-use (eqb (action_at table i.0) a) _ (h i.0 i.1.0 i.1.1) (eq-eqb _ _ i.2)))

  pub reply-open : (xs : List ℕ) (e a t i : ℕ) → InRow table ok q i → action_at table i ≡ a
      → held_before xs e t (target_at table i) ≡ false → false ≡ replies_held L xs e q a t
  unfolding replies_held defender_loses all_states table_lts
  reply-open xs e a t i r ea h =
      all-not (states_of table) _ (target_at table i) (ok.target i (row_below table ok q hq i r.1))
      (rw (row-transition table ok q hq i r ea refl, h))

-- ---- an entry, test by test, with the number of states as it was read

module _ (table g xs : List ℕ) (e p q a t : ℕ) {n : ℕ} (states : n ≡ states_of table) where
  abbrev verdict : Bool
  verdict = sound_over (table_lts table) (relation_of (states_of table) g) xs e p q a t

  abbrev tested : Bool
  tested = outside (relation_of n g) p q a t

  pub unsound-p : n ≤ p → false ≡ verdict
  unfolding sound_over table_lts
  unsound-p h = rw (le-ltb p (states_of table) (omega (arith, states, h)))

  pub unsound-q : p < n → n ≤ q → false ≡ verdict
  unfolding sound_over table_lts
  unsound-q hp h = rw (lt-ltb p (states_of table) (omega (arith, states, hp)), le-ltb q (states_of table) (omega (arith, states, h)))

  module _ (hp : p < n) (hq : q < n) where
    below : tested || (table_lts table).transition p a t && replies_held (table_lts table) xs e q a t ≡ verdict
    unfolding sound_over table_lts
    below = rw (states, lt-ltb p (states_of table) (omega (arith, states, hp)), lt-ltb q (states_of table) (omega (arith, states, hq)))

    pub sound-outside : tested ≡ true → true ≡ verdict
    sound-outside h = sym (ap (λ (b : Bool). b || (table_lts table).transition p a t && replies_held (table_lts table) xs e q a t) h) ∙ below

    module _ (inside : tested ≡ false) where
      pub unsound-transition : (table_lts table).transition p a t ≡ false → false ≡ verdict
      unsound-transition h =
          sym (ap₂ (λ (b c : Bool). b || c && replies_held (table_lts table) xs e q a t) inside h) ∙ below

      pub sound-replies : (table_lts table).transition p a t ≡ true → replies_held (table_lts table) xs e q a t ≡ verdict
      sound-replies h = sym (ap₂ (λ (b c : Bool). b || c && replies_held (table_lts table) xs e q a t) inside h) ∙ below

      pub unsound-t : Formed table → n ≤ t → false ≡ verdict
      unsound-t ok h = unsound-transition (no_target table ok p a t (omega (arith, states, h)))
