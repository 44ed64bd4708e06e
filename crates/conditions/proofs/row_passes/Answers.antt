-- `conditions::row_passes` meets its contract: the members of row p are walked through, and each meets the conditions. Assumes nothing.
use Prim.Native.Nat.{ℕ, ◌*◌, ◌≤◌, ◌<◌}
use mathlib.Core.Path.{◌≡◌, sym, ap₂, ◌∙◌, subst⁻¹}
use mathlib.Core.List.{List}
use native.Mathlib.Omega.{arith}
use borrow.Author.Count.{below_none, below_more}
use lib.ListN.{length}
use Rattle.lts.specs.Bounded.{◌⇒◌}
use Rattle.lts.proofs.Below.{all_yes, all-not}
use Rattle.rows.specs.Rows.{row_words}
use Rattle.transitions.specs.Table.{states_of}
use Rattle.relation.proofs.Matrices.{row-long}
use Rattle.conditions.proofs.Pairs.{walked_skip, walked_row}
use Rattle.conditions.proofs.row_passes.Goals.{After-row_at-row, After-row_words-w}
use Rattle.conditions.proofs.row_passes.Goals as goal

-- what row p asks: the claim's length, at most 256 states, and p
fits : (c : After-row_words-w) → let n = c.states-n.result in
    (length c.args.claim.now ≡ n * row_words n) × (n ≤ 256) × (c.args.p < n)
fits c =
    let states = c.states-n.ensures.0 in (
      subst⁻¹ (λ (n : ℕ). length c.args.claim.now ≡ n * row_words n) states c.requires.formed.2.long,
      omega (arith, states, c.requires.formed.0.states),
      omega (arith, states, c.requires.p_bound),
    )

-- the row is as long as a row
long : (c : After-row_at-row) → (let n = c.states-n.result in (length c.args.claim.now ≡ n * row_words n) × (n ≤ 256) × (c.args.p < n)) → c.row_words-w.result ≤ length c.row_at-row.result.now
long c a-fits =
    let f = a-fits in
    let n = c.states-n.result in
    let l = subst⁻¹ (λ (l : List ℕ). row_words n ≤ length l) c.row_at-row.ensures (row-long n _ f.2 f.0) in
    omega (arith, l, c.row_words-w.ensures)

pub row_at-row-requires : goal.row_at-row-requires
row_at-row-requires c = fits c

pub next_state-q-requires : goal.next_state-q-requires
next_state-q-requires c = (long c (fits (goal.at.next_state-q-requires c).After-row_words-w), omega (arith, c.row_words-w.ensures, (fits (goal.at.next_state-q-requires c).After-row_words-w).1), omega arith)

pub loop-q-init : goal.loop-q-init
loop-q-init c = (c.next_state-q.ensures.below, c.next_state-q.ensures.member, walked_skip _ _ c.next_state-q.ensures (below_none _))

pub pair_passes-requires : goal.pair_passes-requires
pair_passes-requires c = record { formed = c.requires.formed; p_bound = (c.requires.p_bound, omega (arith, c.loop-q-test.true, c.states-n.ensures.0)) }

pub returns-then-not-pair_passes : goal.returns-then-not-pair_passes
returns-then-not-pair_passes c =
    let states = c.states-n.ensures.0 in
    let below = c.loop-q-test.true in
    let member = c.loop-q.invariant.1 (omega (arith, below, c.row_words-w.ensures)) in
    all-not (states_of c.args.table.now) _ c.loop-q.q (omega (arith, below, states)) (ap₂ ◌⇒◌ member (sym c.pair_passes.ensures ∙ c.if-not-pair_passes.true))
    ∙ walked_row (states_of c.args.table.now) c.args.claim.now c.args.p _ states c.row_at-row.ensures

pub next_state-q-requires-in-loop-q : goal.next_state-q-requires-in-loop-q
next_state-q-requires-in-loop-q c =
    (long (goal.at.next_state-q-requires-in-loop-q c).After-row_at-row (fits (goal.at.next_state-q-requires-in-loop-q c).After-row_words-w), omega (arith, c.row_words-w.ensures, (fits (goal.at.next_state-q-requires-in-loop-q c).After-row_words-w).1), omega (arith, c.loop-q-test.true, c.row_words-w.ensures))

pub loop-q-preserved : goal.loop-q-preserved
loop-q-preserved c =
    let member = c.loop-q.invariant.1 (omega (arith, c.loop-q-test.true, c.row_words-w.ensures)) in
    (c.next_state-q-in-loop-q.ensures.below, c.next_state-q-in-loop-q.ensures.member, walked_skip _ _ c.next_state-q-in-loop-q.ensures (below_more _ _ c.loop-q.invariant.2 (ap₂ ◌⇒◌ member (sym c.pair_passes.ensures ∙ c.if-not-pair_passes.false))))

pub returns : goal.returns
returns c =
    let states = c.states-n.ensures.0 in
    all_yes (states_of c.args.table.now) _ (λ x h. c.loop-q.invariant.2 x (omega (arith, h, states, c.loop-q-test.false)))
    ∙ walked_row (states_of c.args.table.now) c.args.claim.now c.args.p _ states c.row_at-row.ensures
