-- `transitions::row_mark` meets its contract: from one state that goes there to the next. Assumes nothing.
use Prim.Native.Nat.{ℕ, ◌+◌, ◌<◌}
use mathlib.Core.Path.{◌≡◌, sym, ap, ◌∙◌}
use mathlib.Core.Bool.{Bool, true, false, cond}
use mathlib.Core.List.{List}
use native.Mathlib.Omega.{arith}
use lib.Dec.{eqb}
use borrow.Author.Tests.{eq-eqb, ne_eqb}
use Rattle.rows.specs.Rows.{Next}
use Rattle.encoding.specs.declared.StateRecord.{StateRecord}
use Rattle.encoding.specs.Records.{state_record}
use Rattle.transitions.specs.Maps.{goes_to, Linked}
use Rattle.transitions.specs.Loading.{mark_image}
use Rattle.transitions.proofs.Links.{seeking-start, seeking-more, seeking-found, seeking-done, goes-state, goes-any, linked-next}
use borrow.Author.Rules.{rules}
use Rattle.transitions.proofs.row_mark.Goals.{After-state_record-record, In-loop-p}
use Rattle.transitions.proofs.row_mark.Goals as goal

-- p goes to state i, so it is a state of the sheet
member : (c : In-loop-p) → (maps : List ℕ) → Linked c.args.h.states maps c.args.links.now
    → goes_to c.args.h.states maps c.args.i c.loop-p.p ≡ true
member c maps k = (c.loop-p.invariant.1 maps k).next.member c.loop-p-test.true

known : (c : In-loop-p) → c.loop-p.p < c.args.h.states
known c = goes-state _ c.requires.2.0 _ _ (member c c.requires.2.0 c.requires.2.1)

-- its mark
marked : (c : After-state_record-record) →
    c.state_record-record.result.mark ≡ (state_record c.args.s.now c.args.h c.loop-p.p).mark
marked c = ap (λ (r : StateRecord). r.mark) c.state_record-record.ensures

mark-one : (c : After-state_record-record) → c.state_record-record.result.mark ≡ 1
    → eqb (state_record c.args.s.now c.args.h c.loop-p.p).mark 1 ≡ true
mark-one c e = eq-eqb _ 1 (sym (marked c) ∙ e)

mark-none : (c : After-state_record-record) → (c.state_record-record.result.mark ≡ 1 → ⊥)
    → eqb (state_record c.args.s.now c.args.h c.loop-p.p).mark 1 ≡ false
mark-none c e = ne_eqb _ 1 (λ f. e (marked c ∙ f))

pub loop-p-init : goal.loop-p-init
loop-p-init c =
    let first : (maps : List ℕ) → Linked c.args.h.states maps c.args.links.now → Next (goes_to c.args.h.states maps c.args.i) 256 0 c.first_to-p.result =
    λ maps k. rw c.first_to-p.ensures (k.first c.args.i c.requires.1) in
    ((first c.requires.2.0 c.requires.2.1).below, λ maps k. seeking-start _ (first maps k))

pub state_record-record-requires : goal.state_record-record-requires
state_record-record-requires c = (c.requires.0.sized, known c)

pub returns-then-record-eq1 : goal.returns-then-record-eq1
unfolding mark_image
returns-then-record-eq1 c =
    let few = c.requires.0.sized.bounds.states in
    λ maps k.
    let e = sym (goes-any c.args.h.states maps c.args.i _ few) ∙ seeking-found (c.loop-p.invariant.1 maps k) c.loop-p-test.true (mark-one (goal.at.returns-then-record-eq1 c).After-state_record-record c.if-record-eq1.true) in
    ap (λ (b : Bool). cond b 1 0) (sym e)

pub loop-p-smaller : goal.loop-p-smaller
loop-p-smaller c =
    let next = linked-next _ _ c.requires.2.1 _ _ (member (goal.at.loop-p-smaller c).In-loop-p c.requires.2.0 c.requires.2.1) in
    omega (arith, c.next_to-p.ensures, next.above, c.loop-p-test.true)

pub loop-p-preserved : goal.loop-p-preserved
loop-p-preserved c =
    let next : (maps : List ℕ) → Linked c.args.h.states maps c.args.links.now → Next (goes_to c.args.h.states maps c.args.i) 256 (c.loop-p.p + 1) c.next_to-p.result =
    λ maps k. rw c.next_to-p.ensures (linked-next _ maps k _ _ (member (goal.at.loop-p-preserved c).In-loop-p maps k)) in (
      (next c.requires.2.0 c.requires.2.1).below,
      λ maps k. seeking-more (c.loop-p.invariant.1 maps k) c.loop-p-test.true (mark-none (goal.at.loop-p-preserved c).After-state_record-record c.if-record-eq1.false) (next maps k),
    )

pub returns : goal.returns
unfolding mark_image
returns c =
    let few = c.requires.0.sized.bounds.states in
    λ maps k.
    let e = sym (goes-any c.args.h.states maps c.args.i _ few) ∙ seeking-done (c.loop-p.invariant.1 maps k) (search rules) in
    ap (λ (b : Bool). cond b 1 0) (sym e)
