use Prim.Native.Nat.{ℕ}
use mathlib.Core.List.{List}
use Rattle.rows.specs.Rows.{in_row}
use Rattle.sets.specs.Sets.{set_at}
use Rattle.refinement.specs.Engine.{Owning, Fixed, removed_by, hits_by}
use Rattle.refinement.proofs.Actions.{Going}
use Rattle.refinement.proofs.refine_actions.Given as goal

abbrev pub invariant-loop-i : goal.invariant-loop-i
invariant-loop-i l =
    (t : List ℕ) → Owning t l.initial.blocks
    → Fixed t l.places l.rows l.turn.actions (in_row l.turn.members) (in_row l.turn.inside) (in_row l.turn.outside) (set_at l.initial.blocks) l.turn.whole
    → (i : ℕ) × Going t (removed_by t (in_row l.turn.inside) (in_row l.turn.outside)) (hits_by t (in_row l.turn.members)) l.turn.actions (in_row l.shared) l.initial.related l.initial.blocks i l.i-iterator.left l.related l.blocks l.touched
