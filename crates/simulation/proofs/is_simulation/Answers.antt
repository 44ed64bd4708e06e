-- `simulation::is_simulation` meets its contract: by the cases of the inputs, of the claim's test and of the answer.
use mathlib.Core.Path.{sym, ap, ◌∙◌}
use mathlib.Core.Bool.{not}
use Rattle.relation.proofs.Checks.{checked-matrix, matrix-test}
use Rattle.inputs.proofs.Laws.{input-kept, kept-ready}
use Rattle.simulation.proofs.CallLaws.{unready, no-matrix, tested}
use Rattle.simulation.proofs.is_simulation.Goals as goal

pub returns-in_err-h : goal.returns-in_err-h
returns-in_err-h c =
    let whole = unready _ _ _ c.from_residual.result (sym c.in_err-h.ensures) c.from_residual.ensures.1 in
    record { claim_value = whole.0; simulation_promise = whole.1 }

pub is_matrix-requires : goal.is_matrix-requires
is_matrix-requires c =
    let k = input-kept _ _ (sym c.in_ok-h.ensures) in
    (kept-ready _ _ k.1 k.0).readable.recorded.sized.bounds.states

pub returns-then-not-is_matrix : goal.returns-then-not-is_matrix
returns-then-not-is_matrix c =
    let whole = no-matrix _ _ _ (sym c.in_ok-h.ensures) c.is_matrix.ensures (ap not c.if-not-is_matrix.true) in
    record { claim_value = whole.0; simulation_promise = whole.1 }

pub is_inside-requires : goal.is_inside-requires
is_inside-requires c =
    let k = input-kept _ _ (sym c.in_ok-h.ensures) in
    let ready = kept-ready _ _ k.1 k.0 in
    (ready.readable, checked-matrix _ _ ready.checked, matrix-test _ _ (sym c.is_matrix.ensures ∙ c.if-not-is_matrix.false))

pub returns : goal.returns
returns c =
    let whole = tested _ _ _ (sym c.in_ok-h.ensures) c.is_matrix.ensures (ap not c.if-not-is_matrix.false) _ c.is_inside.ensures in
    record { claim_value = whole.0; simulation_promise = whole.1 }
