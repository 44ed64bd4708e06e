-- `release::start_in` meets its contract.
use native.Mathlib.Omega.{arith}
use mathlib.Core.Path.{ap}
use lib.ListN.{length}
use Rattle.lts.proofs.Rule.{passed_on}
use Rattle.carry.proofs.Bytes.{carried-fits}
use Rattle.release.proofs.Starts.{back-refused, back-written}
use Rattle.release.proofs.start_in.Goals as goal

pub store-requires : goal.store-requires
store-requires c =
    let k = c.write_start.auto.grid in
    omega (arith, k, ap length c.requires, carried-fits 8 1024 c.args.grid.now)

pub returns-in_err-write_start : goal.returns-in_err-write_start
returns-in_err-write_start c =
    rw (passed_on _ c.from_residual.ensures.1, ← c.in_err-write_start.was) (back-refused _ _ _ _ c.requires c.write_start.ensures c.in_err-write_start.was)

pub returns : goal.returns
returns c = rw (← c.in_ok-write_start.was) (back-written _ _ _ _ c.requires c.write_start.ensures c.in_ok-write_start.was c.store.ensures)
