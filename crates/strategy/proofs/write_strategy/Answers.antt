use mathlib.Core.Path.{◌≡◌, ◌∙◌, ap}
use Rattle.std.proofs.Common.{rules, Ok, Err}
use Rattle.encoding.specs.declared.Header.{Header}
use Rattle.lts.proofs.Rule.{passed_on}
use Rattle.inputs.specs.Inputs.{read_pair}
use Rattle.inputs.proofs.Laws.{kept-ready, pair-broken, pair-kept, pair-inputs, pair-states}
use Rattle.strategy.proofs.Writes.{unready, on-system}
use Rattle.strategy.proofs.Promise.{write_meets}
use Rattle.strategy.proofs.write_strategy.Goals as goal

pub write_loaded-requires : goal.write_loaded-requires
write_loaded-requires c =
    let e : read_pair c.args.s.now c.args.start.now c.args.p c.args.q ≡ Ok c.in_ok-h.h = search rules in
    let k = pair-kept _ _ _ _ e in
    let b = pair-states _ _ _ _ k.1 k.0 in
    (kept-ready _ _ k.1 (pair-inputs _ _ _ _ k.0), b.0, b.1)

pub returns-in_err-h : goal.returns-in_err-h
returns-in_err-h c =
    let e : read_pair c.args.s.now c.args.start.now c.args.p c.args.q ≡ Err c.in_err-h.field-0.0 = search rules in
    let m = write_meets _ _ _ _ _ (unready _ _ _ _ _ (pair-broken _ _ _ _ e)) in
    rw (passed_on _ c.from_residual.ensures.1) (record { numbers_value = m.0; write_promise = m.1 })

pub returns : goal.returns
returns c =
    let e : read_pair c.args.s.now c.args.start.now c.args.p c.args.q ≡ Ok c.in_ok-h.h = search rules in
    let k = pair-kept c.args.s.now c.args.start.now c.args.p c.args.q e in
    let m = write_meets _ _ _ _ _ (on-system _ _ _ _ _ _ (ap (λ (h : Header). h.states) k.1) k.0 ∙ c.write_loaded.ensures) in
    record { numbers_value = m.0; write_promise = m.1 }
