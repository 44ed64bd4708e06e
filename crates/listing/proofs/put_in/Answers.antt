-- `put_in`: coarsest refuses nothing, and the text of what it gives is the text of the system.
use Rattle.listing.proofs.Calls.{states-most, never-refused, flow-small, flow-text}
use borrow.Author.Rules.{rules}
use Rattle.listing.proofs.put_in.Goals as goal

pub put_result-requires : goal.put_result-requires
put_result-requires c =
    let e = c.in-Ok.is in
    (states-most c.requires.0.readable, flow-small c.requires.0 e c.refine.ensures, search rules, search rules, search rules)

pub returns-in-Ok : goal.returns-in-Ok
returns-in-Ok c =
    let e = c.in-Ok.is in
    let t = flow-text c.requires.0 e c.refine.ensures in
    record { value = rw t at c.put_result.ensures.value; out_after = rw t at c.put_result.ensures.out_after }

pub returns-in-Err : goal.returns-in-Err
returns-in-Err c = absurd (never-refused c.requires.0 c.in-Err.is c.refine.ensures)
