-- `relation::set_rows` meets its contract: from one member to the next. Assumes nothing.
use mathlib.Core.Path.{◌≡◌, sym, ap, ◌∙◌}
use mathlib.Core.Bool.{Bool, false, cond}
use Prim.Native.Nat.{ℕ, ◌<◌}
use native.Mathlib.Omega.{arith}
use lib.ListN.{length}
use Rattle.lts.specs.System.{Set, Rel}
use Rattle.rows.specs.Rows.{in_row}
use Rattle.relation.specs.Matrix.{relation_of}
use Rattle.relation.proofs.Matrices.{length-matrix_of, matrix-relation, formed-of}
use Rattle.relation.proofs.Rows.{row-set, rows_next, rows-first, rows_end}
use borrow.Author.Rules.{rules}
use Rattle.relation.proofs.set_rows.Goals as goal

-- the row of a state that is no member is as it was
left : (Members Row : Set) (R : Rel) (p q : ℕ) → Members p ≡ false → R p q ≡ cond (Members p) (Row q) (R p q)
left Members Row R p q e = sym (ap (λ (b : Bool). cond b (Row q) (R p q)) e)

pub loop-p-init : goal.loop-p-init
loop-p-init c =
    let R = relation_of c.args.n c.args.grid.now in
    let Members = in_row c.args.members.now in
    let Row = in_row c.args.row.now in (
      λ h. c.next_state-p.ensures.member (omega (arith, h, c.requires.n_bound.0)),
      matrix-relation _ _ c.requires.n_bound.1 (λ j. (c.type_inv.grid j).fits)
          ∙ rows-first c.args.n _ R Members (λ t q _ _ e. left Members Row R t q e) _ _ c.next_state-p.ensures,
    )

pub set_row-requires : goal.set_row-requires
set_row-requires c =
    (formed-of _ _ c.loop-p.invariant.1, c.requires.n_bound.0, search rules, record { long = search rules; clear = λ q h l. c.requires.by_index q h (omega arith) })

pub loop-p-preserved : goal.loop-p-preserved
loop-p-preserved c =
    let n = c.args.n in
    let Members = in_row c.args.members.now in
    let Row = in_row c.args.row.now in
    let R = relation_of n c.args.grid.now in
    let p = c.loop-p.p in
    let hp : p < n = c.loop-p-test.true in
    let N : Rel = λ p q. cond (Members p) (Row q) (R p q) in (
      λ h. c.next_state-p-in-loop-p.ensures.member (omega (arith, h, c.requires.n_bound.0)),
      c.set_row.ensures
          ∙ row-set n N R p c.loop-p.grid hp c.loop-p.invariant.1 Row (λ q hq. sym (ap (λ (b : Bool). cond b (Row q) (R p q)) (c.loop-p.invariant.0 hp)))
          ∙ rows_next n N R Members (λ t q _ _ e. left Members Row R t q e) _ _ _ c.next_state-p-in-loop-p.ensures,
    )

pub shape_of-grid : goal.shape_of-grid
shape_of-grid c = ap length c.loop-p.invariant.1 ∙ length-matrix_of _ _ ∙ sym c.requires.n_bound.1.long

pub returns : goal.returns
returns c = c.loop-p.invariant.1 ∙ rows_end _ _ _ _ 0 (search rules)
