-- `labels::add_label` meets its contract: the bits of one byte after the other.
use native.Mathlib.Omega.{arith}
use borrow.Author.Rules.{rules}
use Rattle.labels.proofs.Index.{mark-none, mark-more, indexed-more}
use Rattle.labels.proofs.add_label.Goals as goal

pub loop-d-init : goal.loop-d-init
loop-d-init c = mark-none _ _ _ c.requires.1.1.long

pub loop-d-preserved : goal.loop-d-preserved
loop-d-preserved c =
    mark-more _ _ _ _ _ c.loop-d.invariant c.low_word.ensures.0 c.high_word.ensures.0 c.insert.ensures c.insert-in-loop-d.ensures

pub returns : goal.returns
returns c = λ J has number.
    indexed-more c.args.label.bytes _ c.requires.0 (λ d. search rules) J _ _ has number (search rules) (omega arith) c.loop-d.invariant
