-- `transitions::add_into` meets its contract: what is gathered transition by transition is what `into` says. Assumes nothing.
use mathlib.Core.Path.{◌≡◌, sym, ap, ◌∙◌}
use mathlib.Core.Bool.{Bool, ◌||◌}
use borrow.Author.Rules.{rules}
use native.Mathlib.Omega.{arith}
use lib.Dec.{eqb}
use lib.ListN.{length}
use Rattle.rows.specs.Rows.{in_row}
use Rattle.rows.proofs.Rows.{gathered, gather_none, gather-in, gather-out, row_of-cong}
use Rattle.transitions.specs.Table.{count_of}
use Rattle.transitions.proofs.Lookups.{hit, hit-on, hit-off, into-table}
use Rattle.transitions.proofs.add_into.Goals.{then-enters_at, else-enters_at}
use Rattle.transitions.proofs.add_into.Goals as goal

pub loop-i-init : goal.loop-i-init
loop-i-init c = gather_none _ _ (λ j. search rules)

-- a turn
pub loop-i-preserved : goal.loop-i-preserved
loop-i-preserved c =
    let i = c.loop-i.i in
    let t = c.args.table.now in
    let X = in_row c.args.x.now in
    let entered = c.enters_at.ensures in
    elim c.if-enters_at.branch [
      | then-enters_at w ↦ w.set-is ∙ w.insert.ensures ∙ gather-in c.args.set.now (hit t c.args.a X) i _ c.loop-i.invariant (λ q. hit-on t c.args.a X i (sym entered ∙ w.if-enters_at.true) q ∙ ap (eqb q) (sym w.source.ensures.0))
      | else-enters_at w ↦ w.set-is ∙ gather-out c.args.set.now (hit t c.args.a X) i c.loop-i.invariant (hit-off t c.args.a X i (sym entered ∙ w.if-enters_at.false))
    ]

pub returns : goal.returns
returns c =
    let t = c.args.table.now in
    let X = in_row c.args.x.now in
    let end : c.loop-i.i ≡ count_of t = omega (arith, c.count-i-end.ensures.0) in
    c.loop-i.invariant ∙ ap (gathered c.args.set.now (hit t c.args.a X)) end
    ∙ row_of-cong (length c.args.set.now) _ _ (λ q h. ap (λ (b : Bool). in_row c.args.set.now q || b) (sym (into-table t c.args.a X c.requires.0 q)))
