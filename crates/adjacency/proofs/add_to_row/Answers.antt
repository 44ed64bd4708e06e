-- `adjacency::add_to_row` meets its contract: by `claimed-room`. Assumes nothing.
use mathlib.Core.Path.{◌≡◌, ap, ◌∙◌}
use mathlib.Core.List.{List}
use Prim.Native.Nat.{ℕ}
use native.Mathlib.Omega.{arith}
use lib.ListN.{length, get_or}
use Rattle.adjacency.specs.Building.{claimed}
use Rattle.adjacency.proofs.Places.{claimed-room}
use Rattle.adjacency.proofs.add_to_row.Goals as goal

pub insert-requires : goal.insert-requires
insert-requires c =
    let read : c.from.result ≡ get_or (claimed c.args.places.now c.args.x c.args.fresh) c.args.x 0 =
    c.from.ensures ∙ ap (λ (l : List ℕ). get_or l c.args.x 0) c.claim.ensures in
    omega (arith, read, claimed-room c.args.places.now c.args.x c.args.fresh c.requires.0 (length c.args.rows.now) c.requires.3 c.requires.4)
