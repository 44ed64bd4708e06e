-- `coarsest::refine_encoding` meets its contract: the table that was loaded has the sheet's system. Assumes nothing.
use mathlib.Core.Path.{◌≡◌, sym, ap₂, subst⁻¹, ◌∙◌}
use Prim.Native.Nat.{ℕ, ◌*◌}
use lib.ListN.{length}
use Rattle.lts.specs.System.{Lts}
use Rattle.rows.specs.Rows.{row_words}
use Rattle.relation.specs.Matrix.{relation_of}
use Rattle.transitions.proofs.Filled.{sheet-states}
use Rattle.refinement.specs.Engine.{Start}
use Rattle.coarsest.specs.Call.{refined}
use Rattle.coarsest.proofs.Laws.{start_of}
use Rattle.coarsest.proofs.refine_encoding.Goals as goal

pub refine_table-requires : goal.refine_table-requires
refine_table-requires c =
    let states = sheet-states c.args.s.now c.args.h c.requires.ready.readable c.load-table.ensures in
    let fit = subst⁻¹ (λ (n : ℕ). Start n c.args.start.now × (length c.args.representatives.now ≡ n) × (length c.args.grid.now ≡ n * row_words n)) states
    (start_of c.args.h.states c.args.start.now c.requires.ready.checked, c.requires.grid_len.1, c.requires.grid_len.0) in
    (c.load-table.ensures.formed, fit.0, fit.1, fit.2)

pub returns : goal.returns
returns c =
    ap₂ (λ (L : Lts) (n : ℕ). refined L (relation_of n c.args.start.now) c.args.schedule.now) (sym c.load-table.ensures.same) (sym (sheet-states c.args.s.now c.args.h c.requires.ready.readable c.load-table.ensures))
    ∙ c.refine_table.ensures
