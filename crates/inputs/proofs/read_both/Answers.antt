-- `inputs::read_both` meets its contract, by the cases of the first reading.
use mathlib.Core.Path.{refl, sym, ◌∙◌}
use Rattle.encoding.proofs.Reader.{readable_of}
use Rattle.inputs.proofs.Joined.{unmatched, first-unread, first_read}
use Rattle.lts.proofs.Rule.{passed_on}
use Rattle.inputs.proofs.read_both.Goals as goal

pub read_second-requires : goal.read_second-requires
read_second-requires c =
    let e = sym c.in_ok-h.ensures.value in
    (readable_of e, c.requires)

pub returns-in_err-h : goal.returns-in_err-h
returns-in_err-h c =
    let e = sym c.in_err-h.ensures.value in
    let p = passed_on _ c.from_residual.ensures.1 in
    record { value = p ∙ first-unread _ _ e; cases = unmatched p c.requires }

pub returns : goal.returns
returns c =
    let e = sym c.in_ok-h.ensures.value in
    record { value = c.read_second.ensures.value ∙ first_read _ _ e; cases = c.read_second.ensures.cases }
