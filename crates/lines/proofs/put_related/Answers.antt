-- `put_related`: by whether p is related to q.
use mathlib.Core.Path.{sym, ◌∙◌}
use native.Mathlib.Omega.{arith}
use Rattle.relation.specs.Matrix.{relation_of}
use Rattle.lines.proofs.Laws.{put-none, related-yes, related-no, three-digits}
use Rattle.lines.proofs.put_related.Goals as goal

pub relates-requires : goal.relates-requires
relates-requires c = (c.requires.0, c.requires.1, c.requires.2, c.requires.3)

pub returns-then-not-relates : goal.returns-then-not-relates
returns-then-not-relates c =
    let e = related-no (relation_of c.args.n c.args.grid.now) c.args.p c.args.q (sym c.relates.ensures ∙ c.if-not-relates.true) in
    let w = put-none c.args.at c.args.out.now in
    record { value = rw e w.place; out_after = rw e w.bytes; upper_bound = omega arith }

pub returns : goal.returns
returns c =
    let e = related-yes (relation_of c.args.n c.args.grid.now) c.args.p c.args.q (sym c.relates.ensures ∙ c.if-not-relates.false) in
    record { value = rw e c.put_number.ensures.value; out_after = rw e c.put_number.ensures.out_after; upper_bound = omega (arith, three-digits c.args.q (omega arith)) }
