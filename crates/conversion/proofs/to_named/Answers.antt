-- `conversion::to_named` meets its contract, by the cases of the reading.
use mathlib.Core.Path.{sym}
use Rattle.encoding.proofs.Reader.{readable_of}
use Rattle.conversion.proofs.Outcomes.{named-stopped, named-filled}
use Rattle.conversion.proofs.to_named.Goals as goal

pub returns-in_err-h : goal.returns-in_err-h
returns-in_err-h c =
    let whole = named-stopped _ _ (λ i _. (c.type_inv.s i).fits) c.from_residual.result (sym c.in_err-h.ensures.value) c.from_residual.ensures.1 in
    record { out_value = whole.0; to_named_promise = whole.1 }

pub convert-requires : goal.convert-requires
convert-requires c = readable_of (sym c.in_ok-h.ensures.value)

pub returns : goal.returns
returns c =
    let whole = named-filled _ _ (λ i _. (c.type_inv.s i).fits) (sym c.in_ok-h.ensures.value) _ c.convert.ensures in
    record { out_value = whole.0; to_named_promise = whole.1 }
