-- The first transition of a state without an answer has the lowest action, then the lowest target. Assumes nothing.
use Prim.Native.Nat.{ℕ, suc, ◌+◌, ◌-◌, ◌≤◌, ◌<◌}
use mathlib.Core.Path.{◌≡◌, refl, sym, ◌∙◌, ap, ap₂}
use mathlib.Core.Logic.{◌⊎◌, inl, inr}
use mathlib.Core.Bool.{Bool, true, false, not, ◌&&◌}
use mathlib.Core.List.{List}
use native.Mathlib.Omega.{arith}
use native.Mathlib.Nat.{eq-or-lt_of_le}
use borrow.Author.Tests.{not-true, not-false}
use Rattle.lts.specs.Bounded.{lowest}
use Rattle.lts.specs.System.{Rel, Lts, any_state, into, answered}
use Rattle.lts.specs.Strategy.{unanswered}
use Rattle.lts.proofs.Bounded.{restrict-at}
use Rattle.lts.proofs.System.{answered-iff}
use Rattle.lts.proofs.Below.{lt-or-ge, clash, either, T_true, and-fst, and-snd, any-yes, any_some, any-cong, lowest-is}
use Rattle.rows.specs.Rows.{Next}
use Rattle.transitions.specs.Table.{states_of, actions_of, count_of, offset_at, action_at, target_at, table_lts, Formed}
use Rattle.transitions.proofs.Entries.{InRow, Between, row_below, row-transition, transition-row, row-sorted, table-formed}
use Rattle.relation.specs.Matrix.{relation_of}
use Rattle.conditions.specs.Conditions.{answered_by, unanswered_by}
use Rattle.conditions.proofs.Answers.{transfer-all}
use Rattle.strategy_write.specs.Writing.{pairs_of, Unanswered}

module _ (t : List ℕ) (ok : Formed t) where
  abbrev L : Lts
  L = table_lts t

  abbrev n : ℕ
  n = states_of t

  target_below : (p i : ℕ) → p < n → i < offset_at t (p + 1) → target_at t i < n
  target_below p i hp h = ok.target i (row_below t ok p hp i h)

  -- the targets of a table are states
  answered-pairs : (g : List ℕ) (q i : ℕ) → i < count_of t → answered_by t (relation_of n g) q i ≡ answered_by t (pairs_of t g) q i
  unfolding answered_by into any_state table_lts
  answered-pairs g q i h =
      any-cong n _ _ (λ r l. ap (λ (b : Bool). L.transition q (action_at t i) r && b) (sym (restrict-at n (relation_of n g) (target_at t i) r (ok.target i h) l)))

  -- ---- the first transition of p with no answer

  module _ (W : Rel) (p q : ℕ) (hp : p < n) where
    module _ (r : ℕ) (lr : offset_at t p ≤ r) (hr : r < offset_at t (p + 1)) (passed : Between (λ i. answered_by t W q i ≡ true) (offset_at t p) r)
        (here : answered_by t W q r ≡ false) where
      -- what is unanswered stands at r or after it
      late : (a x : ℕ) → unanswered L W p q a x ≡ true → (action_at t r < a) ⊎ ((action_at t r ≡ a) × (target_at t r ≤ x))
      unfolding unanswered answered_by
      late a x u = go (lt-or-ge i r)
        where
          row : (i : ℕ) × InRow t ok p i × (action_at t i ≡ a) × (target_at t i ≡ x)
          row = transition-row t ok p hp a x (and-fst _ _ u)

          i : ℕ
          i = row.0

          lacking : into L (action_at t i) (W (target_at t i)) q ≡ false
          lacking =
              ap₂ (λ (b y : ℕ). into L b (W y) q) row.2 row.3
              ∙ not-true _ (and-snd (L.transition p a x) (not (into L a (W x) q)) u)

          after : (r ≡ i) ⊎ (r < i) → (action_at t r < a) ⊎ ((action_at t r ≡ a) × (target_at t r ≤ x))
          after (inl e) =
              let same : target_at t r ≡ x = ap (λ (j : ℕ). target_at t j) e ∙ row.3 in
              inr (ap (λ (j : ℕ). action_at t j) e ∙ row.2, omega (arith, same))
          after (inr l) = next (row-sorted t ok p hp r i l (lr, hr) row.1)
            where
              next : (action_at t r < action_at t i) ⊎ ((action_at t r ≡ action_at t i) × (target_at t r < target_at t i))
                  → (action_at t r < a) ⊎ ((action_at t r ≡ a) × (target_at t r ≤ x))
              next (inl h) = inl (omega (arith, h, row.2))
              next (inr h) = inr (h.0 ∙ row.2, omega (arith, h.1, row.3))

          go : (i < r) ⊎ (r ≤ i) → (action_at t r < a) ⊎ ((action_at t r ≡ a) × (target_at t r ≤ x))
          go (inl l) = absurd (clash (passed i row.1.0 l) lacking)
          go (inr l) = after (eq-or-lt_of_le l)

      stuck : unanswered L W p q (action_at t r) (target_at t r) ≡ true
      unfolding unanswered answered_by
      stuck = rw (row-transition t ok p hp r (lr, hr) refl refl, here)

      some : ℕ → Bool
      some b = any_state L (unanswered L W p q (suc b))

      lowest-action : action_at t r ≡ suc (lowest (actions_of t) some)
      unfolding any_state table_lts some
      lowest-action =
          let named = ok.named r (row_below t ok p hp r hr) in
          let most = ok.action r (row_below t ok p hp r hr) in
          let e : action_at t r ≡ suc (action_at t r - 1) = omega (arith, named) in
          let below : action_at t r - 1 < actions_of t = omega (arith, named, most) in
          let found = sym (any-yes n _ (target_at t r) (target_below p r hp hr) (sym (ap (λ (a : ℕ). unanswered L W p q a (target_at t r)) e) ∙ stuck)) in
          e ∙ ap suc (lowest-is (actions_of t) some (action_at t r - 1) below found (λ b h. none b h (either (some b))))
        where
          none : (b : ℕ) → b < action_at t r - 1 → (some b ≡ true) ⊎ (some b ≡ false) → some b ≡ false
          none b h (inr f) = f
          none b h (inl u) = let s = any_some n (unanswered L W p q (suc b)) u in absurd (case (late (suc b) s.0 s.2))
            where
              case : (action_at t r < suc b) ⊎ ((action_at t r ≡ suc b) × (target_at t r ≤ (any_some n (unanswered L W p q (suc b)) u).0)) → ⊥
              case (inl l) = omega (arith, h, l)
              case (inr e) = omega (arith, h, e.0)

      lowest-target : target_at t r ≡ lowest n (unanswered L W p q (action_at t r))
      lowest-target =
          lowest-is n (unanswered L W p q (action_at t r)) (target_at t r) (target_below p r hp hr) stuck
          (λ x h. none x h (either (unanswered L W p q (action_at t r) x)))
        where
          none : (x : ℕ) → x < target_at t r → (unanswered L W p q (action_at t r) x ≡ true) ⊎ (unanswered L W p q (action_at t r) x ≡ false)
              → unanswered L W p q (action_at t r) x ≡ false
          none x h (inr f) = f
          none x h (inl u) = absurd (case (late (action_at t r) x u))
            where
              case : (action_at t r < action_at t r) ⊎ ((action_at t r ≡ action_at t r) × (target_at t r ≤ x)) → ⊥
              case (inl l) = omega (arith, l)
              case (inr e) = omega (arith, h, e.1)

      first-is : Unanswered t W p q r
      unfolding some
      first-is = record { below = row_below t ok p hp r hr; action = lowest-action; target = lowest-target }

  -- where there is one
  pub first-lowest : (g : List ℕ) (p q : ℕ) → p < n → answered L (pairs_of t g) p q ≡ false → {r : ℕ}
      → Next (unanswered_by t (relation_of n g) q) (offset_at t (p + 1)) (offset_at t p) r → Unanswered t (pairs_of t g) p q r
  first-lowest g p q hp lacks {r} next = go (lt-or-ge r (offset_at t (p + 1)))
    where
      W : Rel
      W = pairs_of t g

      passed : Between (λ i. answered_by t W q i ≡ true) (offset_at t p) r
      passed i l h =
          let high : i < offset_at t (p + 1) = omega (arith, h, next.below) in
          sym (answered-pairs g q i (row_below t ok p hp i high)) ∙ not-false _ (next.none i l h)

      go : (r < offset_at t (p + 1)) ⊎ (offset_at t (p + 1) ≤ r) → Unanswered t W p q r
      go (inl h) = first-is W p q hp r next.above h passed (sym (answered-pairs g q r (row_below t ok p hp r h)) ∙ not-true _ (next.member h))
      go (inr h) =
          let all = transfer-all t ok W p q hp (λ i l u. passed i l (omega (arith, u, h))) in
          absurd (clash (T_true _ ((answered-iff (table-formed t ok) W p q).1 all)) lacks)
