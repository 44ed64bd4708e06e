-- `adjacency::index_transitions` meets its contract: by `building-more`, transition by transition, and `index-built`. Assumes nothing.
use mathlib.Core.Path.{◌≡◌, ap, subst}
use Prim.Native.Nat.{ℕ, ◌+◌, ◌*◌, ◌≤◌, ◌<◌}
use native.Mathlib.Omega.{arith}
use lib.ListN.{length}
use Rattle.transitions.specs.Table.{actions_of, count_of}
use Rattle.adjacency.specs.Building.{Building}
use Rattle.adjacency.proofs.Building.{building-begin, building-more}
use Rattle.adjacency.proofs.Built.{index-built}
use Rattle.adjacency.proofs.index_transitions.Goals as goal

pub loop-i-init : goal.loop-i-init
loop-i-init c =
    building-begin c.args.table.now c.requires.by_index.0 c.requires.by_index.1

pub loop-i-preserved : goal.loop-i-preserved
loop-i-preserved c =
    let t = c.args.table.now in
    let low : c.loop-i.i < count_of t = omega (arith, c.count-i-end.ensures.0) in
    let long : 512 * (actions_of t + 1) ≤ length c.loop-i.places = omega (arith, c.requires.formed.1, c.loop-i.auto.places) in
    building-more c.requires.formed.0 c.loop-i.invariant low long (ap (λ (n : ℕ). 2 * n + 1 + 2 * c.loop-i.i) c.actions-m.ensures.0)
    c.source.ensures.0 c.action.ensures.0 c.target.ensures.0 c.add_transition.ensures.0 c.add_transition.ensures.1

pub returns : goal.returns
returns c =
    let t = c.args.table.now in
    let all : c.loop-i.i ≡ count_of t = omega (arith, c.count-i-end.ensures.0) in
    index-built c.requires.formed.0 (subst (λ (i : ℕ). Building t i c.loop-i.places c.loop-i.rows) all c.loop-i.invariant) (omega (arith, c.requires.formed.1, c.loop-i.auto.places))
    (omega (arith, c.requires.formed.2, c.loop-i.auto.rows))
