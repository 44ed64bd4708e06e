-- `put_row`: the states below q are written.
use mathlib.Core.Path.{◌≡◌}
use native.Mathlib.Omega.{arith}
use Rattle.relation.specs.Matrix.{relation_of}
use Rattle.lines.specs.Lines.{related_text}
use Rattle.lines.proofs.Laws.{put-none, put-more, concat-none, concat-more}
use borrow.Author.Rules.{rules}
use Rattle.lines.proofs.put_row.Goals as goal

pub loop-q-init : goal.loop-q-init
loop-q-init c =
    let e = concat-none (related_text (relation_of c.args.n c.args.grid.now) c.args.p) in
    (search rules, rw e (put-none c.args.from c.args.out.now))

pub loop-q-preserved : goal.loop-q-preserved
loop-q-preserved c =
    let e = concat-more (related_text (relation_of c.args.n c.args.grid.now) c.args.p) c.loop-q.q in
    (search rules, rw e (put-more c.loop-q.invariant.1 (record { place = c.put_related-at.ensures.value; bytes = c.put_related-at.ensures.out_after }) (omega arith)))

pub returns : goal.returns
returns c =
    let e : c.loop-q.q ≡ c.args.n = omega arith in
    let w = rw e at c.loop-q.invariant.1 in
    record { value = w.place; out_after = w.bytes; upper_bound = omega arith }
