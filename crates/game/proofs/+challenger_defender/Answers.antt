-- The turns of the bounded game meet their contracts. Each search of a row has the lost transitions (the replies that are lost) behind it;
-- the measures are 2k + 1 and 2k for k rounds left.
use Prim.Native.Nat.{ℕ, ◌+◌, ◌-◌, ◌*◌, ◌<◌, ◌≤◌}
use mathlib.Core.Path.{◌≡◌, sym, ap, ap₂, ◌∙◌, subst⁻¹}
use mathlib.Core.Bool.{Bool, true, false}
use mathlib.Core.List.{List}
use native.Mathlib.Omega.{arith}
use Rattle.lts.specs.Game.{defender_loses}
use Rattle.transitions.specs.Table.{states_of, offset_at, action_at, target_at, table_lts, Formed}
use Rattle.transitions.proofs.Entries.{Between, row-most, row_below}
use Rattle.relation.specs.Matrix.{relation_of}
use Rattle.game.specs.Memo.{wins, cell_of}
use Rattle.game.proofs.Entries.{lost, beaten, wins-outside, wins-over, wins-more, beaten-by, not-beaten, saved-by, not_saved}
use Rattle.game.proofs.Cells.{cell_below, size_small, right-won, right-missed}
use Rattle.game.proofs.+challenger_defender.Goals as goal

-- the place of the pair's cell
place : {N n r p q : ℕ} → n ≡ N → (r ≡ 0 → ⊥) → (p < N) × (q < N) × (r ≤ 6) → cell_of n r p q < 6 * N * N
place {N} {n} {r} {p} {q} e more b = subst⁻¹ (λ (n : ℕ). cell_of n r p q < 6 * N * N) e (cell_below (omega arith) b.2 b.0 b.1)

-- whether the pair is in the start
inside : (t start : List ℕ) {n : ℕ} (p q : ℕ) {r b : Bool} → r ≡ relation_of n start p q → n ≡ states_of t → r ≡ b → relation_of (states_of t) start p q ≡ b
inside t start p q e n is = sym (e ∙ ap (λ (n : ℕ). relation_of n start p q) n) ∙ is

-- whether each reply to the transition is lost
lost-by : (t start : List ℕ) (k q i : ℕ) {a u : ℕ} {r b : Bool} → r ≡ defender_loses (table_lts t) (wins t start k) q a u → a ≡ action_at t i → u ≡ target_at t i
    → r ≡ b → lost t (wins t start k) q i ≡ b
lost-by t start k q i e a u is = sym (e ∙ ap₂ (λ (x y : ℕ). defender_loses (table_lts t) (wins t start k) q x y) a u) ∙ is

pub challenger-returns-then-not-relates-clause-value : goal.challenger-returns-then-not-relates-clause-value
challenger-returns-then-not-relates-clause-value m c =
    sym (wins-outside _ _ _ _ _ (inside c.args.table.now c.args.start.now c.args.p c.args.q c.relates.ensures c.states-n.ensures.0 c.if-not-relates.true))

pub challenger-returns-then-rounds-eq0-clause-value : goal.challenger-returns-then-rounds-eq0-clause-value
challenger-returns-then-rounds-eq0-clause-value m c =
    sym (wins-over _ _ _ _ _ (inside c.args.table.now c.args.start.now c.args.p c.args.q c.relates.ensures c.states-n.ensures.0 c.if-not-relates.false) c.if-rounds-eq0.true)

pub challenger-overflow_mul-cell-2 : goal.challenger-overflow_mul-cell-2
challenger-overflow_mul-cell-2 m c =
    omega (arith, place c.states-n.ensures.0 c.if-rounds-eq0.false c.requires.p_bound, size_small c.requires.playable.0.table.states)

pub challenger-overflow_add-cell-2 : goal.challenger-overflow_add-cell-2
challenger-overflow_add-cell-2 m c =
    omega (arith, place c.states-n.ensures.0 c.if-rounds-eq0.false c.requires.p_bound, size_small c.requires.playable.0.table.states)

pub challenger-bounds : goal.challenger-bounds
challenger-bounds m c = omega (arith, place c.states-n.ensures.0 c.if-rounds-eq0.false c.requires.p_bound, c.requires.playable.1.size)

pub challenger-action-a-requires : goal.challenger-action-a-requires
challenger-action-a-requires m c = omega (arith, c.loop-i-test.true, c.offset-end.ensures.0, row-most c.args.table.now c.requires.playable.0.table c.args.p c.requires.p_bound.0)

pub challenger-target-t-requires : goal.challenger-target-t-requires
challenger-target-t-requires m c = omega (arith, c.loop-i-test.true, c.offset-end.ensures.0, row-most c.args.table.now c.requires.playable.0.table c.args.p c.requires.p_bound.0)

pub challenger-defender-requires : goal.challenger-defender-requires
challenger-defender-requires m c =
    let ok = c.requires.playable.0.table in
    let b = c.requires.p_bound in
    let below = row_below c.args.table.now ok c.args.p b.0 c.loop-i.i (omega (arith, c.offset-end.ensures.0, c.loop-i-test.true)) in (
      omega (arith, c.decreases),
      ((c.requires.playable.0, c.loop-i.invariant.1), (omega (arith, c.target-t.ensures.0, ok.target c.loop-i.i below), b.1, omega (arith, c.if-rounds-eq0.false), b.2)),
    )

pub challenger-bounds-memo-cell : goal.challenger-bounds-memo-cell
challenger-bounds-memo-cell m c = omega (arith, place c.states-n.ensures.0 c.if-rounds-eq0.false c.requires.p_bound, c.defender.ensures.right.size)

-- inside the start, with rounds left, the transitions decide
module _ (t start : List ℕ) (rounds p q : ℕ) (ok : Formed t) (e : relation_of (states_of t) start p q ≡ true) (more : rounds ≡ 0 → ⊥) (hp : p < states_of t) where
  turn : wins t start rounds p q ≡ beaten (table_lts t) (wins t start (rounds - 1)) p q
  turn = wins-more _ _ _ _ _ e (omega arith)

  won-by : (i : ℕ) → offset_at t p ≤ i → i < offset_at t (p + 1) → lost t (wins t start (rounds - 1)) q i ≡ true → wins t start rounds p q ≡ true
  won-by i low high is = turn ∙ beaten-by _ ok _ _ _ hp i low high is

  missed-by : Between (λ j. lost t (wins t start (rounds - 1)) q j ≡ false) (offset_at t p) (offset_at t (p + 1)) → wins t start rounds p q ≡ false
  missed-by none = turn ∙ not-beaten _ ok _ _ _ hp none

pub challenger-returns-then-defender : goal.challenger-returns-then-defender
challenger-returns-then-defender m c =
    let t = c.args.table.now in
    let s = c.args.start.now in
    let b = c.requires.p_bound in
    let won = won-by t s c.args.rounds c.args.p c.args.q c.requires.playable.0.table
    (inside t s c.args.p c.args.q c.relates.ensures c.states-n.ensures.0 c.if-not-relates.false) c.if-rounds-eq0.false b.0 c.loop-i.i
    (omega (arith, c.loop-i.auto.i, c.offset-first.ensures.0)) (omega (arith, c.offset-end.ensures.0, c.loop-i-test.true))
    (lost-by t s (c.args.rounds - 1) c.args.q c.loop-i.i c.defender.ensures.value c.action-a.ensures.0 c.target-t.ensures.0 c.if-defender.true) in
    record {
      value = sym won;
      right = rw c.states-n.ensures.0 (right-won _ _ _ c.defender.ensures.right c.args.rounds c.args.p c.args.q (omega (arith, c.if-rounds-eq0.false)) b.2 b.0 b.1 won);
    }

pub challenger-bounds-memo-cell-2 : goal.challenger-bounds-memo-cell-2
challenger-bounds-memo-cell-2 m c = omega (arith, place c.states-n.ensures.0 c.if-rounds-eq0.false c.requires.p_bound, c.loop-i.invariant.1.size)

pub challenger-returns : goal.challenger-returns
challenger-returns m c =
    let t = c.args.table.now in
    let s = c.args.start.now in
    let b = c.requires.p_bound in
    let missed = missed-by t s c.args.rounds c.args.p c.args.q c.requires.playable.0.table
    (inside t s c.args.p c.args.q c.relates.ensures c.states-n.ensures.0 c.if-not-relates.false) c.if-rounds-eq0.false b.0
    (λ j x y. c.loop-i.invariant.0 j x (omega (arith, y, c.loop-i-test.false, c.offset-end.ensures.0))) in
    record {
      value = sym missed;
      right = rw c.states-n.ensures.0 (right-missed _ _ _ c.loop-i.invariant.1 c.args.rounds c.args.p c.args.q (omega (arith, c.if-rounds-eq0.false)) b.2 b.0 b.1 missed);
    }

pub defender-action-requires : goal.defender-action-requires
defender-action-requires m c = omega (arith, c.loop-j-test.true, c.offset-end.ensures.0, row-most c.args.table.now c.requires.playable.0.table c.args.q c.requires.t_bound.1)

pub defender-target-r-requires : goal.defender-target-r-requires
defender-target-r-requires m c = omega (arith, c.loop-j-test.true, c.offset-end.ensures.0, row-most c.args.table.now c.requires.playable.0.table c.args.q c.requires.t_bound.1)

pub defender-challenger-requires : goal.defender-challenger-requires
defender-challenger-requires m c =
    let ok = c.requires.playable.0.table in
    let b = c.requires.t_bound in
    let below = row_below c.args.table.now ok c.args.q b.1 c.loop-j.j (omega (arith, c.offset-end.ensures.0, c.loop-j-test.true)) in (
      omega (arith, c.decreases, b.2),
      ((c.requires.playable.0, c.loop-j.invariant.1), (b.0, omega (arith, c.target-r.ensures.0, ok.target c.loop-j.j below), omega (arith, b.3))),
    )

-- whether the challenger wins after the reply
won-after : (t start : List ℕ) (k u j : ℕ) {r : ℕ} {x b : Bool} → x ≡ wins t start k u r → r ≡ target_at t j → x ≡ b → wins t start k u (target_at t j) ≡ b
won-after t start k u j e r is = sym (e ∙ ap (wins t start k u) r) ∙ is

pub defender-returns-then-not-challenger-clause-value : goal.defender-returns-then-not-challenger-clause-value
defender-returns-then-not-challenger-clause-value m c =
    sym (saved-by _ c.requires.playable.0.table _ _ _ _ c.requires.t_bound.1 c.loop-j.j
    (omega (arith, c.loop-j.auto.j, c.offset-first.ensures.0)) (omega (arith, c.offset-end.ensures.0, c.loop-j-test.true)) (sym c.action.ensures.0 ∙ c.if-action-a.true)
    (won-after c.args.table.now c.args.start.now (c.args.rounds - 1) c.args.t c.loop-j.j c.challenger.ensures.value c.target-r.ensures.0 c.if-not-challenger.true))

pub defender-returns-clause-value : goal.defender-returns-clause-value
defender-returns-clause-value m c =
    sym (not_saved _ c.requires.playable.0.table _ _ _ _ c.requires.t_bound.1
    (λ j x y. c.loop-j.invariant.0 j x (omega (arith, y, c.loop-j-test.false, c.offset-end.ensures.0))))
