-- `put_states`: the lines of the states below p are written.
use mathlib.Core.Path.{◌≡◌}
use native.Mathlib.Omega.{arith}
use Rattle.relation.specs.Matrix.{relation_of}
use Rattle.lines.proofs.Laws.{put-none, put-more, lines_none, lines_more, lines-all}
use borrow.Author.Rules.{rules}
use Rattle.lines.proofs.put_states.Goals as goal

pub loop-p-init : goal.loop-p-init
loop-p-init c = let e = lines_none c.args.n (relation_of c.args.n c.args.grid.now) c.args.representatives.now in
    (search rules, rw e (put-none c.args.from c.args.out.now))

pub loop-p-preserved : goal.loop-p-preserved
loop-p-preserved c = let e = lines_more c.args.n (relation_of c.args.n c.args.grid.now) c.args.representatives.now c.loop-p.p in
    (omega (arith, c.put_state-at.ensures.upper_bound, c.loop-p.invariant.0), rw (e, ← c.from.ensures) (put-more c.loop-p.invariant.1 (record { place = c.put_state-at.ensures.value; bytes = c.put_state-at.ensures.out_after }) (omega arith)))

pub returns : goal.returns
returns c = let e : c.loop-p.p ≡ c.args.n = omega arith in
    let w = rw (e, lines-all) at c.loop-p.invariant.1 in
    record { value = w.place; out_after = w.bytes }
