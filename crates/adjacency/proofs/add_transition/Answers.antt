-- `adjacency::add_transition` meets its contract: by `all-put`. Assumes nothing.
use mathlib.Core.Path.{◌≡◌, ap}
use mathlib.Core.List.{List}
use Prim.Native.Nat.{ℕ, ◌+◌, ◌*◌, ◌≤◌, ◌<◌}
use native.Mathlib.Omega.{arith}
use lib.ListN.{length, get_or}
use Rattle.adjacency.specs.Building.{claimed, targets_place, sources_place}
use Rattle.adjacency.proofs.Places.{claimed-rooms}
use Rattle.adjacency.proofs.Building.{all-put}
use borrow.Author.Rules.{rules}
use Rattle.adjacency.proofs.add_transition.Goals as goal

pub add_to_row-requires-2 : goal.add_to_row-requires-2
add_to_row-requires-2 c =
    let x = targets_place c.args.a c.args.p in
    let y = sources_place c.args.a c.args.t in
    let inside : x < length c.args.places.now = omega (arith, c.requires.le_a) in
    let room : (64 + c.args.fresh) * 4 + 4 ≤ length c.args.rows.now = omega (arith, c.requires.le_a) in
    let rooms = claimed-rooms c.args.places.now x c.args.fresh inside (length c.args.rows.now) room c.requires.by_index y in
    let same : get_or c.add_to_row.new.places y 0 ≡ get_or (claimed c.args.places.now x c.args.fresh) y 0 = ap (λ (l : List ℕ). get_or l y 0) c.add_to_row.ensures.0 in
    (search rules, search rules, search rules, search rules, omega (arith, same, rooms))

pub returns : goal.returns
returns c =
    all-put c.args.places.now c.args.fresh c.args.p c.args.a c.args.t c.requires.le_a.2 c.args.rows.now c.add_to_row.ensures.0 c.add_to_row.ensures.1 c.add_to_row-2.ensures.0 c.add_to_row-2.ensures.1
    c.insert.ensures c.insert-2.ensures c.insert-3.ensures
