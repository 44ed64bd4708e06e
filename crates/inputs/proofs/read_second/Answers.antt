-- `inputs::read_second` meets its contract, by the cases of the second reading.
use mathlib.Core.Path.{refl, sym, ◌∙◌}
use Rattle.encoding.proofs.Reader.{readable_of}
use Rattle.inputs.proofs.Joined.{unmatched, matched, second-unread, second-read}
use Rattle.lts.proofs.Rule.{passed_on}
use Rattle.inputs.proofs.read_second.Goals as goal

pub join_labels-m-requires : goal.join_labels-m-requires
join_labels-m-requires c =
    let e = sym c.in_ok-g.ensures.value in
    (c.requires.0, readable_of e, c.requires.1)

pub check_joined-requires : goal.check_joined-requires
check_joined-requires c =
    let e = sym c.in_ok-g.ensures.value in
    (c.requires.0.recorded.sized.bounds, (readable_of e).recorded.sized.bounds)

pub returns-in_err-g : goal.returns-in_err-g
returns-in_err-g c =
    let e = sym c.in_err-g.ensures.value in
    let p = passed_on _ c.from_residual.ensures.1 in
    record { value = p ∙ second-unread _ _ _ e; cases = unmatched p c.requires.1 }

pub returns : goal.returns
returns c =
    let e = sym c.in_ok-g.ensures.value in
    record { value = c.check_joined.ensures ∙ second-read _ _ _ e c.join_labels-m.ensures.value; cases = matched _ _ _ (sym c.check_joined.ensures) c.join_labels-m.ensures.cases }
