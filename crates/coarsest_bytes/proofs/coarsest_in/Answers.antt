-- `coarsest_in` meets its contract, by the cases of the answer on the words and numbers that the bytes carry.
use mathlib.Core.Path.{ap}
use native.Mathlib.Omega.{arith}
use lib.ListN.{length}
use Rattle.lts.proofs.Rule.{passed_on}
use Rattle.carry.proofs.Bytes.{carried-fits}
use Rattle.coarsest_bytes.proofs.Laws.{back-refused, back_done}
use Rattle.coarsest_bytes.proofs.coarsest_in.Goals as goal

pub store-requires : goal.store-requires
store-requires c =
    omega (arith, c.coarsest.auto.grid, ap length c.requires.0, carried-fits 8 1024 c.args.grid.now)

pub store-requires-2 : goal.store-requires-2
store-requires-2 c =
    omega (arith, c.coarsest.auto.representatives, ap length c.requires.1, carried-fits 2 256 c.args.representatives.now)

pub returns-in_err-counts : goal.returns-in_err-counts
returns-in_err-counts c =
    rw (passed_on _ c.from_residual.ensures.1)
    (back-refused c.args.s.now c.args.start.now c.args.schedule.now c.args.grid.now c.args.representatives.now _ c.requires.0 c.requires.1 c.coarsest.ensures.representatives_value c.in_err-counts.was)

pub returns : goal.returns
returns c =
    back_done c.args.s.now c.args.start.now c.args.schedule.now c.args.grid.now c.args.representatives.now _ c.requires.0 c.requires.1 c.coarsest.ensures.representatives_value c.in_ok-counts.was
    c.store.ensures c.store-2.ensures
