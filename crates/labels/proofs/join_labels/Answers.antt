-- `labels::join_labels` meets its contract: two plain sheets by number, others by label.
use Rattle.encoding.specs.Labels.{labels_in}
use Prim.Native.Nat.{max}
use borrow.Author.Rules.{rules}
use mathlib.Core.Path.{◌≡◌, sym, ◌∙◌}
use Rattle.encoding.proofs.Labels.{labels_length_lem}
use Rattle.labels.proofs.Labels.{plain-count, plain-matches}
use mathlib.Core.Path.{ap}
use mathlib.Core.Bool.{not}
use Rattle.labels.proofs.join_labels.Goals as goal

pub returns-then-not-h-g : goal.returns-then-not-h-g
returns-then-not-h-g c =
    let plain = (ap not c.if-not-h-g.true) in
    let bh = c.requires.0.recorded.sized.bounds in
    let bg = c.requires.1.recorded.sized.bounds in
    let larger : c.max.result ≡ max c.args.h.actions c.args.g.actions = search rules in
    record { value = larger ∙ plain-count c.args.first.now c.args.h c.args.second.now c.args.g bh bg plain; cases = plain-matches c.args.first.now c.args.h c.args.second.now c.args.g bh bg plain c.keep_actions.ensures.0 c.keep_actions.ensures.1 }

pub match_labels-requires : goal.match_labels-requires
match_labels-requires c =
    (c.requires.1, c.requires.2, (labels_in c.args.first.now c.args.h, c.index_labels-index.ensures, sym (labels_length_lem c.args.first.now c.args.h)))

pub returns : goal.returns
returns c =
    let A = labels_in c.args.first.now c.args.h in
    let n = sym (labels_length_lem c.args.first.now c.args.h) in
    let has = c.index_labels-index.ensures in
    record { value = c.match_labels.ensures.by_index A has n; cases = c.match_labels.ensures.by_index_2 A has n }
