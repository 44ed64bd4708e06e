-- `starts::action_words` meets its contract: what is gathered transition by transition.
use Prim.Native.Nat.{ℕ, ◌+◌, ◌-◌, ◌*◌}
use mathlib.Core.Path.{◌≡◌, sym, ap, ap₂, ◌∙◌}
use native.Mathlib.Omega.{arith}
use lib.Dec.{eqb}
use lib.ListN.{replicate}
use Rattle.rows.proofs.Rows.{gathered, gather_none, gather-in, get_or-zeros}
use Rattle.transitions.specs.Table.{count_of}
use Rattle.starts.proofs.Words.{sets-bit, words-gathered}
use Rattle.starts.proofs.action_words.Goals as goal

pub loop-i-init : goal.loop-i-init
loop-i-init c = gather_none (replicate 256 0) _ (λ j. rw get_or-zeros (omega arith))

pub loop-i-preserved : goal.loop-i-preserved
loop-i-preserved c =
    c.insert.ensures ∙ gather-in (replicate 256 0) (sets-bit c.args.table.now) c.loop-i.i _ c.loop-i.invariant
    (λ q. ap₂ (λ (p a : ℕ). eqb q (64 * p + (a - 1))) (sym c.source-p.ensures.0) (sym c.action.ensures.0))

pub returns : goal.returns
returns c =
    let t = c.args.table.now in
    let end : c.loop-i.i ≡ count_of t = omega (arith, c.count-i-end.ensures.0) in
    c.loop-i.invariant ∙ ap (gathered (replicate 256 0) (sets-bit t)) end ∙ words-gathered t c.requires
