-- `relation::row_formed` meets its contract: no bit of the last word from n on. Assumes nothing.
use mathlib.Core.Path.{ap, ◌∙◌}
use mathlib.Core.List.{List}
use Prim.Native.Nat.{ℕ, ◌<◌, ◌*◌, ◌/◌, ◌%◌, ◌^◌}
use native.Mathlib.Omega.{arith}
use lib.Dec.{eqb}
use lib.ListN.{length, get_or}
use lib.Seq.{get_or-drop}
use Rattle.rows.specs.Rows.{row_words}
use Rattle.relation.proofs.Matrices.{row-long}
use Rattle.relation.proofs.Checks.{clear-full, clear-last}
use Rattle.relation.proofs.row_formed.Goals.{After-row_at-row}
use Rattle.relation.proofs.row_formed.Goals as goal

pub returns-then-m-eq0 : goal.returns-then-m-eq0
returns-then-m-eq0 c = clear-full _ _ _ c.if-m-eq0.true

-- the word of the first bit that is no state's
room : (c : After-row_at-row) → c.args.n / 64 < length c.row_at-row.result.now
room c =
    omega (arith, c.if-m-eq0.false, ap length c.row_at-row.ensures, row-long c.args.n c.args.grid.now c.requires.2 c.requires.0)

pub offset_bounds-row-n : goal.offset_bounds-row-n
offset_bounds-row-n c = omega (arith, room c)

pub bounds-row-n : goal.bounds-row-n
bounds-row-n c = room (goal.at.bounds-row-n c).After-row_at-row

pub returns : goal.returns
returns c =
    let m = c.args.n % 64 in
    ap (λ (l : List ℕ). eqb (get_or l (c.args.n / 64) 0 / 2 ^ m) 0) c.row_at-row.ensures
    ∙ ap (λ (x : ℕ). eqb (x / 2 ^ m) 0) (get_or-drop (c.args.p * row_words c.args.n) c.args.grid.now (c.args.n / 64) 0)
    ∙ clear-last c.args.n c.args.grid.now c.args.p (omega (arith, c.if-m-eq0.false)) (c.type_inv.grid _).fits
