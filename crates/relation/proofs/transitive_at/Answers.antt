-- `relation::transitive_at` meets its contract: what is left after the states above is tested last. Assumes nothing.
use mathlib.Core.Path.{sym}
use Rattle.relation.specs.Matrix.{relation_of}
use Rattle.relation.proofs.Transitivity.{left-whole}
use Rattle.relation.proofs.transitive_at.Goals as goal

pub transitive_above-requires : goal.transitive_above-requires
transitive_above-requires c =
    let whole = left-whole c.args.n (relation_of c.args.n c.args.grid.now) c.args.p _ c.requires.matrix.1 c.row_set-left.ensures in
    record { matrix = (c.requires.matrix.0, c.requires.matrix.1, c.requires.matrix.2, whole); by_index = c.requires.by_index }

pub returns-then-not-transitive_above : goal.returns-then-not-transitive_above
returns-then-not-transitive_above c = sym (c.transitive_above.ensures.0 (c.if-not-transitive_above.true))

pub transitive_rest-requires : goal.transitive_rest-requires
transitive_rest-requires c =
    (c.requires.matrix.0, c.requires.matrix.1, c.requires.matrix.2, c.transitive_above.ensures.1 (c.if-not-transitive_above.false))
