-- `conversion::to_plain` meets its contract, by the cases of the reading.
use mathlib.Core.Path.{sym, ap}
use mathlib.Core.Bool.{not}
use Rattle.encoding.proofs.Reader.{readable_of}
use Rattle.conversion.proofs.Outcomes.{plain-stopped, plain_other, plain-filled}
use Rattle.conversion.proofs.to_plain.Goals as goal

pub returns-in_err-h : goal.returns-in_err-h
returns-in_err-h c =
    let whole = plain-stopped _ _ (λ i _. (c.type_inv.s i).fits) c.from_residual.result (sym c.in_err-h.ensures.value) c.from_residual.ensures.1 in
    record { out_value = whole.0; to_plain_promise = whole.1 }

pub named_in_decimal-requires : goal.named_in_decimal-requires
named_in_decimal-requires c = readable_of (sym c.in_ok-h.ensures.value)

pub returns-then-not-named_in_decimal : goal.returns-then-not-named_in_decimal
returns-then-not-named_in_decimal c =
    let whole = plain_other _ _ (λ i _. (c.type_inv.s i).fits) (sym c.in_ok-h.ensures.value) c.named_in_decimal.ensures (ap not c.if-not-named_in_decimal.true) in
    record { out_value = whole.0; to_plain_promise = whole.1 }

pub convert-requires : goal.convert-requires
convert-requires c = readable_of (sym c.in_ok-h.ensures.value)

pub returns : goal.returns
returns c =
    let whole = plain-filled _ _ (λ i _. (c.type_inv.s i).fits) (sym c.in_ok-h.ensures.value) c.named_in_decimal.ensures (ap not c.if-not-named_in_decimal.false) _ c.convert.ensures in
    record { out_value = whole.0; to_plain_promise = whole.1 }
