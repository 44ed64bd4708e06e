-- `transitions::has_into` meets its contract: number by number of the state's row. Assumes nothing.
use Prim.Native.Nat.{◌<◌, ◌+◌}
use native.Mathlib.Omega.{arith}
use Rattle.transitions.specs.Table.{offset_at}
use Rattle.transitions.proofs.Entries.{row_below}
use Rattle.transitions.proofs.Lookups.{looked-more, looked-done}
use Rattle.transitions.proofs.has_into.Goals.{In-loop-i}
use Rattle.transitions.proofs.has_into.Goals as goal

high : (c : In-loop-i) → c.loop-i.i < offset_at c.args.table.now (c.args.p + 1)
high c = omega (arith, c.offset-i-end.ensures.0)

pub enters_at-found-requires : goal.enters_at-found-requires
enters_at-found-requires c =
    (c.requires.0, c.requires.2, row_below c.args.table.now c.requires.0 c.args.p c.requires.1 c.loop-i.i (high c))

pub loop-i-preserved : goal.loop-i-preserved
loop-i-preserved c =
    looked-more _ _ _ c.requires.0 _ c.requires.1 c.loop-i.i _ _ c.loop-i.invariant
    (omega (arith, c.offset-i.ensures.0), high (goal.at.loop-i-preserved c).In-loop-i) c.enters_at-found.ensures

pub returns : goal.returns
returns c = looked-done _ _ _ c.requires.0 _ c.requires.1 c.loop-i.i _ c.loop-i.invariant (omega (arith, c.offset-i-end.ensures.0))
