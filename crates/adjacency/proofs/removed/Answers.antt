-- `adjacency::removed` meets its contract: by `removed-whole` and `removed-lacking`. Assumes nothing.
use Rattle.adjacency.proofs.Lookups.{removed-whole, removed-lacking}
use Rattle.adjacency.proofs.removed.Goals as goal

pub returns-then-whole : goal.returns-then-whole
returns-then-whole c =
    λ t ix known whole. removed-whole ix c.args.a c.requires.2 known c.args.inside c.args.outside (whole c.if-whole.true)
    c.enabled.ensures (c.sources_into.ensures t ix known) c.minus.ensures

pub returns : goal.returns
returns c =
    λ t ix known whole. removed-lacking ix c.args.a c.requires.2 known c.args.inside c.args.outside (c.sources_into-2.ensures t ix known)
    (c.lacking.ensures t ix known)
