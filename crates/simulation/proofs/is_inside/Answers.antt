-- `simulation::is_inside` meets its contract: the table that it loads holds the encoding's system. Assumes nothing.
use Prim.Native.Nat.{ℕ}
use mathlib.Core.Path.{subst⁻¹}
use Rattle.transitions.proofs.Filled.{sheet-states}
use Rattle.relation.specs.Matrix.{Matrix}
use Rattle.simulation.proofs.CallLaws.{inside-table}
use Rattle.simulation.proofs.is_inside.Goals as goal

pub claim_passes-requires : goal.claim_passes-requires
claim_passes-requires c =
    let states = sheet-states _ _ c.requires.0 c.load-table.ensures in
    let start = subst⁻¹ (λ (n : ℕ). Matrix n c.args.start.now) states c.requires.1 in
    let claim = subst⁻¹ (λ (n : ℕ). Matrix n c.args.claim.now) states c.requires.2 in
    search (c.load-table.ensures.formed, start, claim)

pub returns : goal.returns
returns c =
    inside-table _ _ c.requires.0 c.load-table.ensures c.args.start.now c.args.claim.now c.claim_passes.ensures
