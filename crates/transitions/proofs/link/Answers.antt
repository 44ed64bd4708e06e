-- `transitions::link` meets its contract: from the last state down. Assumes nothing.
use Prim.Native.Nat.{ℕ, ◌-◌, ◌+◌, ◌<◌}
use mathlib.Core.Path.{◌≡◌, subst}
use native.Mathlib.Omega.{arith}
use Rattle.transitions.proofs.Links.{Linking, linking-start, linking-more}
use Rattle.transitions.proofs.link.Goals.{After-state_to-i}
use Rattle.transitions.proofs.link.Goals as goal

-- the state that p goes to is below 256
image : (c : After-state_to-i) → c.state_to-i.result < 256
image c =
    let k = c.requires.1 (c.loop-p.p - 1) (omega (arith, c.loop-p-test.true, c.loop-p.invariant.up)) in
    omega (arith, c.state_to-i.ensures.0, k)

pub loop-p-init : goal.loop-p-init
loop-p-init c = linking-start _ _ c.requires.0

pub loop-p-preserved : goal.loop-p-preserved
loop-p-preserved c =
    let up : c.loop-p.p ≡ c.loop-p.p - 1 + 1 = omega (arith, c.loop-p-test.true) in
    linking-more (c.loop-p.p - 1) (subst (λ (q : ℕ). Linking c.args.n c.args.maps.now q c.loop-p.links) up c.loop-p.invariant) c.requires.0 _ c.state_to-i.ensures.0 (image c)
