-- `put_head`: its parts, one after the other.
use native.Mathlib.Omega.{arith}
use Rattle.lines.specs.Lines.{head_line}
use Rattle.lines.proofs.Laws.{put-more}
use Rattle.lines.proofs.put_head.Goals as goal

pub returns : goal.returns
unfolding head_line
returns c =
    let x = put-more (record { place = c.put_number-a.ensures.value; bytes = c.put_number-a.ensures.out_after }) (record { place = c.put_number-b.ensures.value; bytes = c.put_number-b.ensures.out_after }) (omega (arith, c.requires, c.put_number-a.ensures.upper_bound)) in
    let y = put-more x (record { place = c.put_number-c.ensures.value; bytes = c.put_number-c.ensures.out_after }) (omega (arith, c.requires, c.put_number-a.ensures.upper_bound, c.put_number-b.ensures.upper_bound)) in
    let z = put-more y (record { place = c.put_number-d.ensures.value; bytes = c.put_number-d.ensures.out_after }) (omega (arith, c.requires, c.put_number-a.ensures.upper_bound, c.put_number-b.ensures.upper_bound, c.put_number-c.ensures.upper_bound)) in
    let w = put-more z (record { place = c.put_text.ensures.value; bytes = c.put_text.ensures.out_after }) (omega (arith, c.requires, c.put_number-a.ensures.upper_bound, c.put_number-b.ensures.upper_bound, c.put_number-c.ensures.upper_bound, c.put_number-d.ensures.upper_bound)) in
    record { value = omega (arith, w.place); out_after = w.bytes; upper_bound = omega arith }
