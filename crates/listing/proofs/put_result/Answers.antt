-- `put_result`: the first line, and the lines of the states after it.
use mathlib.Core.Path.{sym, ◌∙◌}
use native.Mathlib.Nat.{zero-add}
use native.Mathlib.Omega.{arith}
use Rattle.lines.proofs.Laws.{put-more}
use Rattle.listing.proofs.put_result.Goals as goal

pub returns : goal.returns
returns c = let w =
    put-more (record { place = c.put_head-at.ensures.value ∙ sym (zero-add _); bytes = c.put_head-at.ensures.out_after })
    (record { place = c.put_states.ensures.value; bytes = c.put_states.ensures.out_after }) (omega (arith, c.requires, c.put_head-at.ensures.upper_bound)) in
    record { value = w.place ∙ zero-add _; out_after = w.bytes }
