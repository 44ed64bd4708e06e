-- `disjoint_union::put_records` meets its contract.
use native.Mathlib.Omega.{arith}
use mathlib.Core.Path.{◌∙◌}
use Rattle.disjoint_union.proofs.Records.{no-records, records-sixteen}
use borrow.Author.Rules.{rules}
use mathlib.Core.Path.{ap}
use mathlib.Core.Bool.{not}
use Rattle.disjoint_union.proofs.put_records.Goals as goal

pub returns-then-not-h-g : goal.returns-then-not-h-g
returns-then-not-h-g c =
    (omega arith, c.requires.2, no-records c.requires.0 (ap not c.if-not-h-g.true))

pub put_joined-requires : goal.put_joined-requires
put_joined-requires c =
    let j = c.requires.0 in
    let n = j.count in
    let l = j.labels in
    record { readable_as = (j.one, j.two, c.requires.2); cases = (c.requires.1, omega (arith, n, l)) }

pub returns : goal.returns
returns c =
    let l = c.requires.0.labels in
    (omega (arith, l), c.put_joined.auto.out ∙ c.requires.2, records-sixteen c.requires.0 (ap not c.if-not-h-g.false) c.put_joined.ensures)
