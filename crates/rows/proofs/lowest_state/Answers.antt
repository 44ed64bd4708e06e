-- `rows::lowest_state` meets its contract: by the trailing zeros of the first word that is not 0. Assumes nothing.
use native.Mathlib.Omega.{arith}
use lib.Seq.{length-take-le}
use Rattle.rows.proofs.Counts.{first-word, no-word}
use Rattle.rows.proofs.lowest_state.Goals as goal

pub returns-then-x-ne0 : goal.returns-then-x-ne0
returns-then-x-ne0 c =
    let row = c.args.row.now in
    let k = c.args.k in
    first-word row k c.requires.0 (λ j. (c.type_inv.row j).fits) c.loop-c.c (omega (arith, length-take-le k row c.requires.0)) c.if-x-ne0.true c.loop-c.invariant

pub returns : goal.returns
returns c =
    let k = c.args.k in
    no-word c.args.row.now k c.requires.0 c.loop-c.c (omega (arith, length-take-le k c.args.row.now c.requires.0)) c.loop-c.invariant
