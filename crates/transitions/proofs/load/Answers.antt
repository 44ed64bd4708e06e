-- `transitions::load` meets its contract: under the maps that keep every number. Assumes nothing.
use mathlib.Core.Path.{subst}
use Rattle.lts.specs.System.{Lts}
use Rattle.transitions.specs.Table.{Holds}
use Rattle.transitions.proofs.Links.{raises-keeps}
use Rattle.transitions.proofs.Loading.{same-sends, same-system}
use Rattle.transitions.proofs.load.Goals as goal

pub load_mapped-requires : goal.load_mapped-requires
load_mapped-requires c =
    let b = c.requires.recorded.sized.bounds in
    let keeps = raises-keeps c.raised-maps.ensures c.same_actions-same.ensures in
    (c.requires, same-sends c.args.s.now c.args.h c.requires _ keeps, b.states, b.actions)

pub returns : goal.returns
returns c =
    let keeps = raises-keeps c.raised-maps.ensures c.same_actions-same.ensures in
    let e = same-system c.args.s.now c.args.h c.requires _ keeps in
    subst (λ (L : Lts). Holds L c.load_mapped.result) e c.load_mapped.ensures
