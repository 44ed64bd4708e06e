-- `transitions::row_sets` meets its contract: from one state that goes there to the next. Assumes nothing.
use Prim.Native.Nat.{◌+◌, ◌<◌}
use mathlib.Core.Path.{◌≡◌, ◌∙◌}
use mathlib.Core.Bool.{true}
use native.Mathlib.Omega.{arith}
use Rattle.rows.specs.Rows.{Next}
use Rattle.rows.proofs.Rows.{row_of-cong}
use Rattle.transitions.specs.Maps.{goes_to, next_to}
use Rattle.transitions.specs.Loading.{chain_image, row_image}
use Rattle.transitions.proofs.Links.{goes-state, goes-any, linked-next}
use Rattle.transitions.proofs.Gathering.{collecting-start, collecting-words, collecting-more, collecting-done, covers-start, covers_more}
use borrow.Author.Rules.{rules}
use Rattle.transitions.proofs.row_sets.Goals.{In-loop-p}
use Rattle.transitions.proofs.row_sets.Goals as goal

-- p goes to state i, so it is a state of the sheet, and the links lead on
member : (c : In-loop-p) → goes_to c.args.h.states c.args.maps.now c.args.i c.loop-p.p ≡ true
member c = c.loop-p.invariant.0.next.member c.loop-p-test.true

known : (c : In-loop-p) → c.loop-p.p < c.args.h.states
known c = goes-state c.args.h.states c.args.maps.now c.args.i _ (member c)

next : (c : In-loop-p) → let a = c.args in
    Next (goes_to a.h.states a.maps.now a.i) 256 (c.loop-p.p + 1) (next_to a.links.now c.loop-p.p)
next c = linked-next _ _ c.requires.recorded.2 _ _ (member c)

pub loop-p-init : goal.loop-p-init
loop-p-init c =
    let first = c.requires.recorded.2.first c.args.i c.requires.recorded.3 in
    (collecting-start 260 _ _ c.requires.sets_value (rw c.first_to-p.ensures first), covers-start 0 c.requires.sets_value)

pub add_chain-used-requires : goal.add_chain-used-requires
add_chain-used-requires c =
    (c.requires.recorded.0, known (goal.at.add_chain-used-requires c).In-loop-p, c.requires.recorded.1, collecting-words c.loop-p.invariant.0)

pub loop-p-smaller : goal.loop-p-smaller
loop-p-smaller c =
    omega (arith, c.next_to-p.ensures, (next (goal.at.loop-p-smaller c).In-loop-p).above, c.loop-p-test.true)

pub loop-p-preserved : goal.loop-p-preserved
loop-p-preserved c =
    let l = c.loop-p.invariant in
    (collecting-more l.0 c.loop-p-test.true c.add_chain-used.ensures.sets_after (rw c.next_to-p.ensures (next (goal.at.loop-p-preserved c).In-loop-p)), covers_more _ l.1 c.add_chain-used.ensures.covers c.add_chain-used.ensures.sets_after)

pub returns : goal.returns
unfolding row_image
returns c =
    let C = chain_image c.args.maps.now c.args.s.now c.args.h in record {
      sets_after = collecting-done c.loop-p.invariant.0 (search rules)
          ∙ row_of-cong 260 _ _ (λ x u. goes-any c.args.h.states c.args.maps.now c.args.i (λ q. C q x) c.requires.recorded.0.sized.bounds.states);
      covers = c.loop-p.invariant.1;
    }
