-- `disjoint_union::join` meets its contract, by the cases of the reading and by the test of the length.
use native.Mathlib.Omega.{arith}
use mathlib.Core.Path.{refl, sym, ◌∙◌}
use lib.Seq.{length-take-le}
use Rattle.lts.proofs.Rule.{passed_on}
use Rattle.inputs.proofs.Joined.{joinable}
use Rattle.inputs.proofs.Matching.{own-actions, sent-actions, joined-holds}
use Rattle.disjoint_union.proofs.Records.{kind-is, records-long}
use Rattle.disjoint_union.proofs.Answers.{unread, short, written}
use borrow.Author.Rules.{rules}
use Rattle.disjoint_union.proofs.join.Goals as goal

pub load_both-requires : goal.load_both-requires
load_both-requires c =
    let e = c.in_ok-both.was in
    let j = joinable _ _ (sym c.read_both.ensures.value ∙ e) in
    let k = c.read_both.ensures.cases.matches _ _ _ e in
    record { readable_as = (j.one, j.two, c.empty-table.ensures); states_bound = (j.states, j.transitions); actions_le_m = (own-actions j k, j.labels, sent-actions j k) }

pub returns-then-out-length : goal.returns-then-out-length
returns-then-out-length c =
    let e = c.in_ok-both.was in
    let j = joinable _ _ (sym c.read_both.ensures.value ∙ e) in
    let k = joined-holds j (c.read_both.ensures.cases.matches _ _ _ e) c.load_both.ensures in let whole = short _ _ _ (sym c.read_both.ensures.value ∙ e) k (kind-is j) c.table_length-length.ensures c.if-out-length.true in record { out_value = whole.0; join_promise = whole.1 }

pub put_records-size-requires : goal.put_records-size-requires
put_records-size-requires c =
    let e = c.in_ok-both.was in
    (joinable _ _ (sym c.read_both.ensures.value ∙ e), c.read_both.ensures.cases.matches _ _ _ e, refl)

pub slice_bounds-write_table-end : goal.slice_bounds-write_table-end
slice_bounds-write_table-end c =
    sym (length-take-le _ _ (omega (arith, c.put_records-size.ensures.0, c.put_records-size.ensures.1)))

pub write_table-requires : goal.write_table-requires
write_table-requires c =
    let e = c.in_ok-both.was in
    let j = joinable _ _ (sym c.read_both.ensures.value ∙ e) in
    let k = joined-holds j (c.read_both.ensures.cases.matches _ _ _ e) c.load_both.ensures in
    let n = c.table_length-length.ensures in
    let l = c.if-out-length.false in
    (c.load_both.ensures.formed, records-long j k refl c.put_records-size.ensures.2, omega (arith, n, l))

pub returns-in_err-both : goal.returns-in_err-both
returns-in_err-both c =
    let whole = unread _ _ _ (sym c.read_both.ensures.value ∙ c.in_err-both.was) in
    rw (passed_on _ c.from_residual.ensures.1) (record { out_value = whole.0; join_promise = whole.1 })

pub returns : goal.returns
returns c =
    let e = c.in_ok-both.was in
    let j = joinable _ _ (sym c.read_both.ensures.value ∙ e) in
    let k = joined-holds j (c.read_both.ensures.cases.matches _ _ _ e) c.load_both.ensures in let whole = written _ _ _ (sym c.read_both.ensures.value ∙ e) k (kind-is j) c.table_length-length.ensures _ c.if-out-length.false c.put_records-size.ensures.2
    c.write_table.ensures in record { out_value = whole.0; join_promise = whole.1 }
