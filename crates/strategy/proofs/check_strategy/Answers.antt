use mathlib.Core.Path.{refl, sym, ap, ◌∙◌}
use Rattle.std.specs.Prelude.{Ok}
use Rattle.encoding.specs.declared.Header.{Header}
use Rattle.lts.proofs.Rule.{passed_on}
use Rattle.inputs.proofs.Laws.{input-broken, input-kept, kept-ready}
use Rattle.strategy_check.proofs.Checks.{unaccepted-mark, accepted-mark}
use Rattle.strategy.specs.declared.Accepted.{Accepted}
use Rattle.strategy.specs.Check.{check_reply}
use Rattle.strategy.proofs.Checks.{accepted-long, unready, unsound, accepts}
use Rattle.strategy.proofs.Promise.{check-meets}
use Rattle.strategy.proofs.check_strategy.Goals as goal

pub accept-requires : goal.accept-requires
accept-requires c = accepted-long _ _ _ (sym (accepted-mark _ _ _ c.check_readable-mark.ensures c.if-mark-eq0.false).0)

pub check_readable-mark-requires : goal.check_readable-mark-requires
check_readable-mark-requires c = let k = input-kept _ _ (sym c.in_ok-h.ensures) in kept-ready _ _ k.1 k.0

pub returns-then-mark-eq0 : goal.returns-then-mark-eq0
returns-then-mark-eq0 c =
    let k = input-kept c.args.s.now c.args.start.now (sym c.in_ok-h.ensures) in
    let m = check-meets _ _ _ (unsound _ _ _ _ (ap (λ (h : Header). h.states) k.1) k.0 (unaccepted-mark _ _ _ c.check_readable-mark.ensures c.if-mark-eq0.true) refl) in
    record { numbers_value = m.0; check_promise = m.1 }

pub returns-in_err-h : goal.returns-in_err-h
returns-in_err-h c =
    let m = check-meets _ _ _ (unready _ _ _ (input-broken _ _ (sym c.in_err-h.ensures))) in
    rw (passed_on _ c.from_residual.ensures.1) (record { numbers_value = m.0; check_promise = m.1 })

pub returns : goal.returns
returns c =
    let k = input-kept c.args.s.now c.args.start.now (sym c.in_ok-h.ensures) in
    let a = accepted-mark _ _ _ c.check_readable-mark.ensures c.if-mark-eq0.false in
    let m = check-meets _ _ _ (accepts _ _ _ _ (ap (λ (h : Header). h.states) k.1) k.0 a.0 refl refl refl a.1 ∙ ap (λ (x : Accepted). check_reply (Ok x)) (sym c.accept.ensures)) in
    record { numbers_value = m.0; check_promise = m.1 }
