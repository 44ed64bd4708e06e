-- `put_refused`: its parts, one after the other.
use native.Mathlib.Omega.{arith}
use Rattle.lines.specs.Lines.{refused_line}
use Rattle.lines.proofs.Laws.{put-more}
use Rattle.lines.proofs.put_refused.Goals as goal

pub returns : goal.returns
unfolding refused_line
returns c =
    let w = put-more (record { place = c.put_number-a.ensures.value; bytes = c.put_number-a.ensures.out_after }) (record { place = c.put_text.ensures.value; bytes = c.put_text.ensures.out_after }) (omega arith) in
    record { value = omega (arith, w.place); out_after = w.bytes }
