-- `put_number`: text, and the digits after it.
use native.Mathlib.Omega.{arith}
use Rattle.lines.proofs.Laws.{Put, put-more, five-digits}
use Rattle.lines.proofs.put_number.Goals as goal

pub returns : goal.returns
returns c =
    let f : Put c.args.at c.args.text.now c.args.out.now c.put_text-next.new.out c.put_text-next.result = record { place = c.put_text-next.ensures.value; bytes = c.put_text-next.ensures.out_after } in
    let w = put-more f (record { place = c.put_decimal.ensures.value; bytes = c.put_decimal.ensures.out_after }) (omega arith) in
    record { value = w.place; out_after = w.bytes; upper_bound = omega (arith, five-digits c.args.x (omega arith)) }
