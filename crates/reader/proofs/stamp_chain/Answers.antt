-- `reader::stamp_chain` meets its contract, as `mark_chain` does; a place is the action and target of a record.
use Prim.Native.Nat.{◌+◌}
use borrow.Author.Rules.{rules}
use native.Mathlib.Numerals.{add-one}
use mathlib.Core.Path.{◌≡◌, refl, ap}
use lib.ListN.{length-set}
use Rattle.encoding.specs.Encoding.{chain, successor}
use Rattle.encoding.proofs.Chains.{walk_end, walk_first, walk_step, walk_last}
use Rattle.reader.proofs.Marks.{rest-start, rest_end, rest_clash, rest_more}
use mathlib.Core.List.{map}
use Rattle.reader.proofs.stamp_chain.Goals as goal

pub loop-init : goal.loop-init
unfolding chain
loop-init c =
    (c.requires.0, c.first_of-j.ensures.bound, rw (c.first_of-j.ensures.is, add-one c.args.h.transitions, walk_first) (rest-start _ _ _), refl, c.requires.2)

pub loop-preserved : goal.loop-preserved
unfolding successor
loop-preserved c = (
  c.loop.invariant.0,
  c.known_transition-r.ensures.next,
  rw c.known_transition-r.ensures.is (rest_more _ _ _ _ _ _ _ (ap (map _) (walk_step _ _ (c.args.h.transitions + 1) c.loop.counter c.loop.j (search rules) (search rules))) c.loop.invariant.2 (rw c.known_transition-r.ensures.is at c.if-stamps-at.false)),
  rw length-set c.loop.invariant.3,
  rw length-set c.loop.invariant.4,
)

pub returns-then-j-eq0 : goal.returns-then-j-eq0
returns-then-j-eq0 c =
    let m = rest_end _ _ _ _ _ (rw (c.if-j-eq0.true, walk_end)) c.loop.invariant.2 in record { value = m.0; stamps_after = m.1 }

pub returns-then-stamps-at : goal.returns-then-stamps-at
unfolding successor
returns-then-stamps-at c =
    let m = rest_clash _ _ _ _ _ _ _ (ap (map _) (walk_step _ _ (c.args.h.transitions + 1) c.loop.counter c.loop.j (search rules) (search rules))) c.loop.invariant.2 (rw (← c.known_transition-r.ensures.is) c.if-stamps-at.true) in
    record { value = m.0; stamps_after = m.1 }

pub returns : goal.returns
returns c =
    let m = rest_end _ _ _ _ _ (ap (map _) (walk_last _ _ _ _ _ (search rules))) c.loop.invariant.2 in record { value = m.0; stamps_after = m.1 }
