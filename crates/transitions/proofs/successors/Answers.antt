-- `transitions::successors` meets its contract: what is gathered from the state's row. Assumes nothing.
use Prim.Native.Nat.{ℕ, ◌<◌, ◌≤◌, ◌+◌}
use mathlib.Core.Path.{◌≡◌, sym, ap, ◌∙◌}
use mathlib.Core.Bool.{Bool}
use native.Mathlib.Omega.{arith}
use lib.ListN.{length, replicate}
use lib.Dec.{eqb}
use Rattle.lts.proofs.Below.{length-list_below}
use Rattle.rows.proofs.Rows.{gathered, gather_none, gather-in, gather-out, get_or-zeros}
use Rattle.transitions.specs.Table.{offset_at, is_entry}
use Rattle.transitions.proofs.Entries.{row-most, row_below}
use Rattle.transitions.proofs.Lookups.{gathered-same, gathered-late, leads-on, leads-off, leads-start, leads-end}
use Rattle.transitions.proofs.successors.Goals.{In-loop-i, Joined-action-a}
use Rattle.transitions.proofs.successors.Goals.{then-action-a, else-action-a}
use Rattle.transitions.proofs.successors.Goals as goal

-- number i is in p's row
low : (c : In-loop-i) → offset_at c.args.table.now c.args.p ≤ c.loop-i.i
low c = omega (arith, c.offset-i.ensures.0)

high : (c : In-loop-i) → c.loop-i.i < offset_at c.args.table.now (c.args.p + 1)
high c = omega (arith, c.offset-i-end.ensures.0)

small : (c : In-loop-i) → c.loop-i.i < 1024
small c = omega (arith, high c, row-most c.args.table.now c.requires.0 c.args.p c.requires.1)

pub loop-i-init : goal.loop-i-init
loop-i-init c =
    let t = c.args.table.now in
    let H : ℕ → ℕ → Bool = λ q i. is_entry t c.args.p c.args.a q i in
    gather_none (replicate 4 0) H (λ j. rw get_or-zeros (omega arith))
    ∙ gathered-late H 0 (offset_at t c.args.p) (leads-start t c.requires.0 c.args.p c.args.a c.requires.1)
    ∙ ap (gathered (replicate 4 0) H) (sym c.offset-i.ensures.0)

pub action-requires : goal.action-requires
action-requires c = small c

pub target-requires : goal.target-requires
target-requires c = small (goal.at.target-requires c).In-loop-i

pub insert-requires : goal.insert-requires
insert-requires c =
    let t = c.args.table.now in
    let below = row_below t c.requires.0 c.args.p c.requires.1 c.loop-i.i (high (goal.at.insert-requires c).In-loop-i) in
    omega (arith, c.target.ensures.0, c.requires.0.target c.loop-i.i below, c.requires.0.states, ap length c.loop-i.invariant ∙ length-list_below 4 _)

-- a turn
pub loop-i-preserved : goal.loop-i-preserved
loop-i-preserved c =
    let t = c.args.table.now in
    let at = (goal.at.loop-i-preserved c).In-loop-i in
    let H : ℕ → ℕ → Bool = λ q i. is_entry t c.args.p c.args.a q i in
    let action = c.action.ensures.0 in
    elim c.if-action-a.branch [
      | then-action-a w ↦ w.set-is ∙ w.insert.ensures ∙ gather-in (replicate 4 0) H c.loop-i.i _ c.loop-i.invariant (λ q. leads-on t c.requires.0 c.args.p c.args.a c.requires.1 c.loop-i.i (low at) (high at) (sym action ∙ w.if-action-a.true) q ∙ ap (eqb q) (sym w.target.ensures.0))
      | else-action-a w ↦ w.set-is ∙ gather-out (replicate 4 0) H c.loop-i.i c.loop-i.invariant (leads-off t c.requires.0 c.args.p c.args.a c.requires.1 c.loop-i.i (λ e. w.if-action-a.false (action ∙ e)))
    ]

pub returns : goal.returns
returns c =
    let t = c.args.table.now in
    let H : ℕ → ℕ → Bool = λ q i. is_entry t c.args.p c.args.a q i in
    let rising : c.offset-i.result ≤ c.offset-i-end.result = omega (arith, c.requires.0.rising c.args.p c.requires.1) in
    let end : c.loop-i.i ≡ offset_at t (c.args.p + 1) = omega (arith, c.loop-i.auto.i-end rising) in
    c.loop-i.invariant ∙ ap (gathered (replicate 4 0) H) end
    ∙ gathered-same H (offset_at t (c.args.p + 1)) _ (λ q h. leads-end t c.requires.0 c.args.p c.args.a c.requires.1 q)
