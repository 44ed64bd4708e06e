-- `transitions::add_chain` meets its contract: what is left to be put in is on the walk from j with the fuel that is left.
use Prim.Native.Nat.{suc, ◌≤◌, ◌<◌, ◌+◌, ◌*◌, ◌-◌}
use mathlib.Core.Path.{◌≡◌, ap}
use mathlib.Core.List.{map}
use native.Mathlib.Omega.{arith}
use Rattle.encoding.specs.Encoding.{chain}
use Rattle.encoding.proofs.Chains.{walk_none, walk_end, walk_more}
use Rattle.transitions.specs.Loading.{record_to, chain_image}
use Rattle.transitions.proofs.Gathering.{gathering-start, gathering-more, gathering-end}
use Rattle.transitions.proofs.Gathering.{masking-start, masking-more, masking-end}
use borrow.Author.Rules.{rules}
use Rattle.transitions.proofs.add_chain.Goals.{After-state_to}
use Rattle.transitions.proofs.add_chain.Goals as goal

-- the record goes to an action from 1 to 64 and to a state below 256
known : (c : After-state_to)
    → (1 ≤ c.action_to-a.result) × (c.action_to-a.result ≤ 64) × (c.state_to.result < 256)
known c =
    let ok = c.requires.2 in
    let a = rw c.from.ensures at c.action_to-a.ensures.0 in
    let t = c.state_to.ensures.0 in
    (rw a (ok.named _ c.known_transition-r.ensures.named c.known_transition-r.ensures.action), rw a (ok.action _ c.known_transition-r.ensures.named c.known_transition-r.ensures.action), rw t (ok.state _ c.known_transition-r.ensures.target))

pub loop-init : goal.loop-init
unfolding chain chain_image
loop-init c =
    let fuel : c.args.h.transitions + 1 - 0 ≡ suc c.args.h.transitions = omega arith in
    (c.requires.0, c.first_of-j.ensures.bound, rw (c.first_of-j.ensures.is, fuel) (gathering-start 260 _ _ c.requires.3), rw (c.first_of-j.ensures.is, fuel) (masking-start _ 0))

pub returns-then-j-eq0 : goal.returns-then-j-eq0
returns-then-j-eq0 c = record { sets_after = gathering-end c.loop.invariant.2 (rw (c.if-j-eq0.true, walk_end)); covers = masking-end c.loop.invariant.3 (rw (c.if-j-eq0.true, walk_end)) }

pub loop-preserved : goal.loop-preserved
unfolding record_to
loop-preserved c =
    let h = c.args.h in
    let turns : h.transitions + 1 - c.loop.counter - 1 ≡ h.transitions + 1 - (c.loop.counter + 1) = omega arith in
    let step = walk_more c.args.s.now h (h.transitions + 1 - c.loop.counter) c.loop.j (omega arith) (search rules) in
    let w = ap (map (record_to c.args.maps.now c.args.s.now h)) (rw turns at step) in
    let y : 256 * c.action_to-a.result + c.state_to.result ≡ record_to c.args.maps.now c.args.s.now c.args.h c.loop.j =
    rw (c.action_to-a.ensures.0, c.from.ensures, c.state_to.ensures.0, c.known_transition-r.ensures.is) in
    let k = known (goal.at.loop-preserved c).After-state_to in
    let v = rw (← y, ← c.known_transition-r.ensures.is) at w in
    (c.loop.invariant.0, c.known_transition-r.ensures.next, gathering-more c.loop.invariant.2 _ _ v c.insert.ensures, masking-more c.loop.invariant.3 _ _ _ k.0 k.1 k.2 v)

pub returns : goal.returns
returns c = let e : c.args.h.transitions + 1 - c.loop.counter ≡ 0 = omega arith in
    record { sets_after = gathering-end c.loop.invariant.2 (rw (e, walk_none)); covers = masking-end c.loop.invariant.3 (rw (e, walk_none)) }
