-- `transitions::load_rows` meets its contract: state by state. Assumes nothing.
use Prim.Native.Nat.{ℕ}
use mathlib.Core.Path.{◌≡◌, refl, subst}
use native.Mathlib.Omega.{arith}
use Rattle.transitions.specs.Loading.{Loading}
use Rattle.transitions.proofs.Gathering.{zero_row}
use Rattle.transitions.proofs.Loading.{loading-within}
use Rattle.transitions.proofs.load_rows.Goals as goal

pub link-links-requires : goal.link-links-requires
link-links-requires c =
    let g = c.requires.1.2 in
    (g.readable.recorded.sized.bounds.states, (loading-within g).state)

pub loop-i-init : goal.loop-i-init
loop-i-init c = (zero_row 260 _ (λ x. refl), λ m L g im. g)

pub load_row-requires : goal.load_row-requires
load_row-requires c =
    let (m, L, g, im) = c.requires.1 in
    record { linked = (c.link-links.ensures, (m, L, c.loop-i.invariant.1 m L g im, im c.loop-i.i c.loop-i.auto.i c.loop-i-test.true)); sets_value = c.loop-i.invariant.0 }

pub returns : goal.returns
returns c =
    let end : c.loop-i.i ≡ c.args.high = omega arith in
    λ m L g im. subst (λ (q : ℕ). Loading L c.args.s.now c.args.h c.args.maps.now m q c.loop-i.table) end (c.loop-i.invariant.1 m L g im)

pub loop-i-preserved : goal.loop-i-preserved
loop-i-preserved c =
    (c.load_row.ensures.sets_after, λ m L g im. c.load_row.ensures.loading m L (c.loop-i.invariant.1 m L g im) (im c.loop-i.i c.loop-i.auto.i c.loop-i-test.true))
