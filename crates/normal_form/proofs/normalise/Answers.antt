-- `normal_form::normalise` meets its contract, by the cases of the reading.
use mathlib.Core.Path.{sym}
use native.Mathlib.Nat.{le_of_eq}
use Rattle.encoding.proofs.Reader.{readable_of}
use Rattle.normal_form.proofs.Outcomes.{stopped, misfit, labels-fill, fills, written}
use Rattle.normal_form.proofs.normalise.Goals as goal

pub returns-in_err-h : goal.returns-in_err-h
returns-in_err-h c =
    let m = stopped _ c.args.out.now c.from_residual.result (sym c.in_err-h.ensures.value) c.from_residual.ensures.1 in
    record { out_value = m.0; normalise_promise = m.1 }

pub returns-then-out-s : goal.returns-then-out-s
returns-then-out-s c =
    let m = misfit _ c.args.out.now (sym c.in_ok-h.ensures.value) c.if-out-s.true in record { out_value = m.0; normalise_promise = m.1 }

pub load-table-requires : goal.load-table-requires
load-table-requires c = readable_of (sym c.in_ok-h.ensures.value)

pub label_bytes-requires : goal.label_bytes-requires
label_bytes-requires c = (readable_of (sym c.in_ok-h.ensures.value)).recorded.sized

pub write_table-requires : goal.write_table-requires
write_table-requires c =
    let out = c.args.out.now in
    let read = sym c.in_ok-h.ensures.value in
    let long = c.if-out-s.false in
    (c.load-table.ensures.formed, labels-fill _ out read long c.load-table.ensures _ c.label_bytes.ensures, le_of_eq (fills _ out read long c.load-table.ensures))

pub returns : goal.returns
returns c =
    let m = written _ c.args.out.now (sym c.in_ok-h.ensures.value) c.if-out-s.false c.load-table.ensures _ c.label_bytes.ensures c.write_table.ensures in
    record { out_value = m.0; normalise_promise = m.1 }
