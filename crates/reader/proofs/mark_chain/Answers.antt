-- `reader::mark_chain` meets its contract: what is left to be marked is the walk from j with the fuel that is left.
use Prim.Native.Nat.{◌+◌}
use borrow.Author.Rules.{rules}
use native.Mathlib.Numerals.{add-one}
use mathlib.Core.Path.{◌≡◌}
use Rattle.encoding.specs.Encoding.{chain}
use Rattle.encoding.proofs.Chains.{walk_end, walk_first, walk_step, walk_last}
use Rattle.reader.proofs.Marks.{rest-start, rest_end, rest_clash, rest_more}
use Rattle.reader.proofs.mark_chain.Goals as goal

pub loop-init : goal.loop-init
unfolding chain
loop-init c =
    (c.requires.0, c.first_of-j.ensures.bound, rw (c.first_of-j.ensures.is, add-one c.args.h.transitions, walk_first) (rest-start _ _ _))

pub loop-preserved : goal.loop-preserved
loop-preserved c = (
  c.loop.invariant.0,
  c.known_transition-j.ensures.next,
  rw c.known_transition-j.ensures.is (rest_more _ _ _ _ _ _ _ (walk_step _ _ (c.args.h.transitions + 1) c.loop.counter c.loop.j (search rules) (search rules)) c.loop.invariant.2 c.if-seen-j-eq1.false),
)

pub returns-then-j-eq0 : goal.returns-then-j-eq0
returns-then-j-eq0 c =
    let m = rest_end _ _ _ _ _ (rw c.if-j-eq0.true (walk_end _ _ _)) c.loop.invariant.2 in record { value = m.0; seen_after = m.1 }

pub returns-then-seen-j-eq1 : goal.returns-then-seen-j-eq1
returns-then-seen-j-eq1 c =
    let m = rest_clash _ _ _ _ _ _ _ (walk_step _ _ (c.args.h.transitions + 1) c.loop.counter c.loop.j (search rules) (search rules)) c.loop.invariant.2 c.if-seen-j-eq1.true in
    record { value = m.0; seen_after = m.1 }

pub returns : goal.returns
returns c =
    let m = rest_end _ _ _ _ _ (walk_last _ _ _ _ _ (search rules)) c.loop.invariant.2 in record { value = m.0; seen_after = m.1 }
