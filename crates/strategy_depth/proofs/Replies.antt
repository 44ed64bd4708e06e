-- The loop over the replies: what is known of the depth after some of the transitions of a state's row. Assumes nothing.
use Prim.Native.Nat.{ℕ, suc, ◌+◌, ◌≤◌, ◌<◌, max}
use mathlib.Core.Path.{◌≡◌, refl, sym, ◌∙◌, ap}
use mathlib.Core.Logic.{◌⊎◌, inl, inr, ⊎_elim}
use mathlib.Core.Bool.{Bool, true, false, cond, not}
use mathlib.Core.List.{List}
use native.Mathlib.Omega.{arith}
use native.Mathlib.Decide.{dec_le, ℕ_discrete}
use lib.Dec.{eqb}
use borrow.Author.Tests.{eq-eqb, ne_eqb}
use Rattle.lts.specs.Bounded.{◌⇒◌, largest_below}
use Rattle.lts.specs.System.{Lts, all_states}
use Rattle.lts.proofs.Below.{all_yes, all-not}
use Rattle.lts.proofs.Count.{largest-least, largest-most}
use Rattle.lts.specs.Game.{defender_loses}
use Rattle.transitions.specs.Table.{states_of, offset_at, action_at, target_at, table_lts, Formed}
use Rattle.transitions.proofs.Entries.{Between, between_none, between_more, row_below, row-transition, transition-row}
use Rattle.strategy_depth.specs.Marks.{marked, reply_mark, reply_depth, entry_mark}

-- ---- the mark of a transition

module _ (table : List ℕ) (marks : ℕ → ℕ → ℕ) (a t i : ℕ) where
  pub mark-own : {x r : ℕ} → action_at table i ≡ a → r ≡ target_at table i → x ≡ marks t r → x ≡ reply_mark table marks a t i
  unfolding reply_mark
  mark-own h w e = e ∙ ap (marks t) w ∙ sym (ap (λ (b : Bool). cond b (marks t (target_at table i)) 1) (eq-eqb _ _ h))

  pub mark-other : (action_at table i ≡ a → ⊥) → 1 ≡ reply_mark table marks a t i
  unfolding reply_mark
  mark-other h = sym (ap (λ (b : Bool). cond b (marks t (target_at table i)) 1) (ne_eqb _ _ h))

-- ---- the depth by the marks, from what every reply has

module _ (L : Lts) (marks : ℕ → ℕ → ℕ) (q a t : ℕ) where
  -- its mark where r is a reply, else 0
  abbrev own : ℕ → ℕ
  own r = cond (L.transition q a r) (marks t r) 0

  own_is : (r : ℕ) → L.transition q a r ≡ true → own r ≡ marks t r
  own_is r m = ap (λ (b : Bool). cond b (marks t r) 0) m

  own-most : (c r : ℕ) → (L.transition q a r ≡ true → marks t r ≤ c) → own r ≤ c
  own-most c r h = go (L.transition q a r) h
    where
      go : (b : Bool) → (b ≡ true → marks t r ≤ c) → cond b (marks t r) 0 ≤ c
      go true k = k refl
      go false k = omega arith

  implied : (b c : Bool) → (b ≡ true → c ≡ true) → (b ⇒ c) ≡ true
  implied true c f = f refl
  implied false c f = refl

  pub depth_is : (c : ℕ) → 1 ≤ c → ((r : ℕ) → L.transition q a r ≡ true → (0 < marks t r) × (marks t r ≤ c))
      → (c ≡ 1) ⊎ ((r : ℕ) × (r < L.states) × (L.transition q a r ≡ true) × (c ≡ marks t r)) → c ≡ reply_depth L marks q a t
  unfolding reply_depth defender_loses all_states
  depth_is c some each taken =
      let all : all_states L (λ r. L.transition q a r ⇒ not (eqb (marks t r) 0)) ≡ true =
      sym (all_yes L.states _ (λ r _. implied (L.transition q a r) (not (eqb (marks t r) 0)) (λ m. ap not (ne_eqb (marks t r) 0 (λ z. omega (arith, z, (each r m).0)))))) in
      sym (ap (λ (b : Bool). cond b (max 1 (largest_below L.states own)) 0) all ∙ low taken)
    where
      most : largest_below L.states own ≤ c
      most = largest-most L.states c own (λ r _. own-most c r (λ m. (each r m).1))

      low : (c ≡ 1) ⊎ ((r : ℕ) × (r < L.states) × (L.transition q a r ≡ true) × (c ≡ marks t r)) → max 1 (largest_below L.states own) ≡ c
      low (inl z) = omega (arith, z, most)
      low (inr r) = omega (arith, r.3, most, some, own_is r.0 r.2, largest-least L.states own r.0 r.1)

  pub depth-none : (r : ℕ) → r < L.states → L.transition q a r ≡ true → marks t r ≡ 0 → 0 ≡ reply_depth L marks q a t
  unfolding reply_depth defender_loses all_states
  depth-none r l m z =
      let none : all_states L (λ r. L.transition q a r ⇒ not (eqb (marks t r) 0)) ≡ false = sym (all-not L.states _ r l (rw (m, z))) in
      sym (ap (λ (b : Bool). cond b (max 1 (largest_below L.states own)) 0) none)

  -- it is 0 exactly where a reply has no mark
  pub depth-unmarked : reply_depth L marks q a t ≡ 0 → defender_loses L (marked marks) q a t ≡ false
  unfolding reply_depth
  depth-unmarked z = go (defender_loses L (marked marks) q a t) z
    where
      go : (b : Bool) → cond b (max 1 (largest_below L.states own)) 0 ≡ 0 → b ≡ false
      go true e = absurd (omega (arith, e))
      go false e = refl

  pub depth-marked : (reply_depth L marks q a t ≡ 0 → ⊥) → defender_loses L (marked marks) q a t ≡ true
  unfolding reply_depth
  depth-marked h = go (defender_loses L (marked marks) q a t) h
    where
      go : (b : Bool) → (cond b (max 1 (largest_below L.states own)) 0 ≡ 0 → ⊥) → b ≡ true
      go true k = refl
      go false k = absurd (k refl)

  -- the mark of an entry, by its action
  pub entry-outside : a ≡ 0 → 1 ≡ entry_mark L marks q a t
  unfolding entry_mark
  entry-outside z = sym (ap (λ (b : Bool). cond b 1 (suc (reply_depth L marks q a t))) (eq-eqb a 0 z))

  pub entry-moved : {x : ℕ} → (a ≡ 0 → ⊥) → x ≡ reply_depth L marks q a t → x + 1 ≡ entry_mark L marks q a t
  unfolding entry_mark
  entry-moved {x} h e =
      let s : x + 1 ≡ suc (reply_depth L marks q a t) = omega (arith, e) in
      s ∙ sym (ap (λ (b : Bool). cond b 1 (suc (reply_depth L marks q a t))) (ne_eqb a 0 h))

  pub entry-some : 0 < entry_mark L marks q a t
  unfolding entry_mark
  entry-some = go (eqb a 0)
    where
      go : (b : Bool) → 0 < cond b 1 (suc (reply_depth L marks q a t))
      go true = omega arith
      go false = omega arith

-- ---- the loop

-- the depth after the transitions of q's row before number i
pub record Seen (table : List ℕ) (marks : ℕ → ℕ → ℕ) (q a t i depth : ℕ) : Type 0 where
  pub some : 1 ≤ depth
  pub small : depth < 65536
  pub covers : Between (λ x. (0 < reply_mark table marks a t x) × (reply_mark table marks a t x ≤ depth)) (offset_at table q) i
  pub taken : (depth ≡ 1) ⊎ ((x : ℕ) × (offset_at table q ≤ x) × (x < i) × (action_at table x ≡ a) × (depth ≡ marks t (target_at table x)))

module _ (table : List ℕ) (marks : ℕ → ℕ → ℕ) (q a t : ℕ) where
  pub seen_none : (i : ℕ) → i ≤ offset_at table q → Seen table marks q a t i 1
  seen_none i l = record { some = omega arith; small = omega arith; covers = between_none _ _ _ l; taken = inl refl }

  pub seen_more : (i d : ℕ) {m : ℕ} → Seen table marks q a t i d → offset_at table q ≤ i → m ≡ reply_mark table marks a t i → (m ≡ 0 → ⊥) → m < 65536
      → {top : ℕ} → top ≡ max d m → Seen table marks q a t (i + 1) top
  seen_more i d {m} s low e h l {top} is = record {
    some = omega (arith, s.some, is);
    small = omega (arith, s.small, l, is);
    covers = between_more _ _ _ (λ x u v. ((s.covers x u v).0, omega (arith, (s.covers x u v).1, is))) (omega (arith, e, h), omega (arith, e, is));
    taken = go (dec_le m d) (ℕ_discrete (action_at table i) a);
  }
    where
      old : m ≤ d → (d ≡ 1) ⊎ ((x : ℕ) × (offset_at table q ≤ x) × (x < i) × (action_at table x ≡ a) × (d ≡ marks t (target_at table x)))
          → (top ≡ 1) ⊎ ((x : ℕ) × (offset_at table q ≤ x) × (x < i + 1) × (action_at table x ≡ a) × (top ≡ marks t (target_at table x)))
      old k (inl z) = inl (omega (arith, k, z, is))
      old k (inr x) = inr (x.0, x.1, omega (arith, x.2), x.3, omega (arith, k, x.4, is))

      go : Dec (m ≤ d) → Dec (action_at table i ≡ a)
          → (top ≡ 1) ⊎ ((x : ℕ) × (offset_at table q ≤ x) × (x < i + 1) × (action_at table x ≡ a) × (top ≡ marks t (target_at table x)))
      go (yes k) c = old k s.taken
      go (no k) (yes c) = inr (i, low, omega arith, c, omega (arith, k, e, is, mark-own table marks a t i c refl refl))
      go (no k) (no c) = absurd (k (omega (arith, s.some, e, mark-other table marks a t i c)))

  module _ (ok : Formed table) (hq : q < states_of table) where
    abbrev L : Lts
    L = table_lts table

    states : L.states ≡ states_of table
    unfolding table_lts
    states = refl

    row_target : (i : ℕ) → i < offset_at table (q + 1) → target_at table i < L.states
    row_target i l = omega (arith, states, ok.target i (row_below table ok q hq i l))

    pub seen_done : (i d : ℕ) → Seen table marks q a t i d → offset_at table (q + 1) ≤ i → i ≤ offset_at table (q + 1) → d ≡ reply_depth L marks q a t
    seen_done i d s high up =
        depth_is L marks q a t d s.some (λ r m.
        let x = transition-row table ok q hq a r m in
        let c = s.covers x.0 x.1.0 (omega (arith, x.1.1, high)) in
        let e = mark-own table marks a t x.0 x.2 refl refl in
        let f = ap (marks t) x.3 in
        (omega (arith, c.0, e, f), omega (arith, c.1, e, f)))
        (⊎_elim inl (λ x. inr (
          target_at table x.0,
          row_target x.0 (omega (arith, x.2, up)),
          row-transition table ok q hq x.0 (x.1, omega (arith, x.2, up)) x.3 refl,
          x.4,
        )) s.taken)

    pub seen-open : (i : ℕ) {m : ℕ} → offset_at table q ≤ i → i < offset_at table (q + 1) → m ≡ reply_mark table marks a t i → m ≡ 0 → 0 ≡ reply_depth L marks q a t
    seen-open i {m} low high e z = go (ℕ_discrete (action_at table i) a)
      where
        go : Dec (action_at table i ≡ a) → 0 ≡ reply_depth L marks q a t
        go (yes c) =
            depth-none L marks q a t (target_at table i) (row_target i high) (row-transition table ok q hq i (low, high) c refl)
            (omega (arith, e, z, mark-own table marks a t i c refl refl))
        go (no c) = absurd (omega (arith, e, z, mark-other table marks a t i c))
