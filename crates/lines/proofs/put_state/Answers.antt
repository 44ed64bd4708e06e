-- `put_state`: its parts, one after the other.
use native.Mathlib.Omega.{arith}
use Rattle.report.specs.Decimal.{decimal}
use Rattle.lines.specs.Lines.{state_line}
use Rattle.lines.proofs.Laws.{Put, put-more, three-digits}
use borrow.Author.Rules.{rules}
use Rattle.lines.proofs.put_state.Goals as goal

pub put_number-b-requires : goal.put_number-b-requires
put_number-b-requires c = omega (arith, three-digits c.args.p (omega arith))

pub put_row-c-requires : goal.put_row-c-requires
put_row-c-requires c = let h = three-digits c.args.p (omega arith) in (search rules, search rules, search rules, omega arith)

pub put_text-requires : goal.put_text-requires
put_text-requires c =
    let h = three-digits c.args.p (omega arith) in
    omega (arith, c.put_number-b.ensures.upper_bound, c.put_row-c.ensures.upper_bound)

pub returns : goal.returns
unfolding state_line
returns c =
    let h = three-digits c.args.p (omega arith) in
    let f : Put c.args.at (decimal c.args.p) c.args.out.now c.put_decimal-a.new.out c.put_decimal-a.result = record { place = c.put_decimal-a.ensures.value; bytes = c.put_decimal-a.ensures.out_after } in
    let x = put-more f (record { place = c.put_number-b.ensures.value; bytes = c.put_number-b.ensures.out_after }) (omega (arith, c.requires, c.put_decimal-a.ensures.value)) in
    let y = put-more x (record { place = c.put_row-c.ensures.value; bytes = c.put_row-c.ensures.out_after }) (omega (arith, c.requires, c.put_decimal-a.ensures.value, c.put_number-b.ensures.upper_bound)) in
    let w = put-more y (record { place = c.put_text.ensures.value; bytes = c.put_text.ensures.out_after }) (omega (arith, c.requires, c.put_decimal-a.ensures.value, c.put_number-b.ensures.upper_bound, c.put_row-c.ensures.upper_bound)) in
    record { value = w.place; out_after = w.bytes; upper_bound = omega (arith, h, c.put_decimal-a.ensures.value, c.put_number-b.ensures.upper_bound, c.put_row-c.ensures.upper_bound, c.put_text.ensures.value) }
