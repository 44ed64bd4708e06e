-- `strategy_bytes::entry_at` meets its contract.
use native.Mathlib.Omega.{arith}
use Rattle.strategy_bytes.proofs.Laws.{entry-carried}
use Rattle.strategy_bytes.proofs.entry_at.Goals as goal

pub overflow_cast-result : goal.overflow_cast-result
overflow_cast-result c = omega (arith, c.read_number.ensures.upper_bound)

pub overflow_cast-result-2 : goal.overflow_cast-result-2
overflow_cast-result-2 c = omega (arith, c.read_number-2.ensures.upper_bound)

pub overflow_cast-result-3 : goal.overflow_cast-result-3
overflow_cast-result-3 c = omega (arith, c.read_number-3.ensures.upper_bound)

pub overflow_cast-result-4 : goal.overflow_cast-result-4
overflow_cast-result-4 c = omega (arith, c.read_number-4.ensures.upper_bound)

pub returns : goal.returns
returns c =
    rw (c.read_number.ensures.value, c.read_number-2.ensures.value, c.read_number-3.ensures.value, c.read_number-4.ensures.value) (entry-carried c.args.bytes.now c.args.i c.requires)
