-- `labels::find_label` meets its contract: the labels with one byte after the other, and the lowest that is left.
use mathlib.Core.Path.{◌∙◌}
use native.Mathlib.Omega.{arith}
use borrow.Author.Rules.{rules}
use Rattle.rows.proofs.Counts.{trailing-lowest}
use Rattle.labels.proofs.Index.{sieve-none, sieve-more, label-found}
use Rattle.labels.proofs.find_label.Goals as goal

pub loop-at-init : goal.loop-at-init
loop-at-init c = sieve-none _ _

pub loop-at-preserved : goal.loop-at-preserved
loop-at-preserved c = sieve-more _ _ _ c.loop-at.invariant c.low_word.ensures.0 c.high_word.ensures.0

pub returns : goal.returns
returns c = λ J has.
    trailing-lowest 64 c.loop-at.set
    ∙ label-found J _ c.args.label.bytes has (search rules) (λ d. search rules) (omega arith) c.loop-at.invariant
