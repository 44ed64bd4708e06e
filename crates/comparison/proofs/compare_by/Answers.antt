-- `comparison::compare_by` meets its contract, by the cases of the reading.
use native.Mathlib.Omega.{arith}
use mathlib.Core.Path.{◌∙◌, sym}
use Rattle.std.specs.Prelude.{Ok}
use Rattle.lts.specs.Mapped.{mapped}
use Rattle.lts.proofs.Rule.{passed_on}
use Rattle.inputs.proofs.Joined.{joinable}
use Rattle.inputs.proofs.Matching.{own-actions, sent-actions, joined-holds}
use Rattle.comparison.proofs.Runs.{joined-states}
use Rattle.comparison.proofs.Answers.{unread, compared}
use Rattle.comparison.proofs.compare_by.Goals as goal

pub load_both-requires : goal.load_both-requires
load_both-requires c =
    let e = c.in_ok-both.was in
    let j = joinable _ _ (sym c.read_both.ensures.value ∙ e) in
    let k = c.read_both.ensures.cases.matches _ _ _ e in
    record { readable_as = (j.one, j.two, c.empty-table.ensures); states_bound = (j.states, j.transitions); actions_le_m = (own-actions j k, j.labels, sent-actions j k) }

pub compare_started-requires : goal.compare_started-requires
unfolding mapped
compare_started-requires c =
    let j = joinable _ _ (sym c.read_both.ensures.value ∙ c.in_ok-both.was) in
    let n = joined-states _ _ j.one _ c.load_both.ensures in
    (c.load_both.ensures.formed, omega (arith, n, j.two.recorded.sized.bounds.state))

pub returns-in_err-both : goal.returns-in_err-both
returns-in_err-both c = rw (passed_on _ c.from_residual.ensures.1) (unread _ _ _ (sym c.read_both.ensures.value ∙ c.in_err-both.was))

pub returns : goal.returns
returns c =
    let e = c.in_ok-both.was in
    let k = joined-holds (joinable _ _ (sym c.read_both.ensures.value ∙ e)) (c.read_both.ensures.cases.matches _ _ _ e) c.load_both.ensures in
    compared _ _ _ (Ok c.compare_started.result) (sym c.read_both.ensures.value ∙ e) k c.compare_started.ensures
