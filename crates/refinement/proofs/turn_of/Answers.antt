-- `refinement::turn_of` meets its contract: the rows of the block's lowest state. Assumes nothing.
use mathlib.Core.Path.{sym, ap, ap₂, ◌∙◌}
use mathlib.Core.Bool.{Bool, cond, not, ◌&&◌}
use mathlib.Core.List.{List}
use Prim.Native.Nat.{ℕ}
use lib.ListN.{get_or}
use Rattle.lts.specs.Bounded.{any_below}
use Rattle.rows.specs.Rows.{in_row}
use Rattle.adjacency.specs.Adjacency.{actions_entering}
use Rattle.rows.proofs.Rows.{row_of-cong}
use Rattle.sets.proofs.Lists.{set-in}
use Rattle.refinement.proofs.turn_of.Goals as goal

pub returns : goal.returns
returns c =
    let inside = c.at-inside.ensures in
    let seen = c.at-seen.ensures in
    record {
      members-is = c.at-members.ensures;
      inside_is = inside;
      outside-is = c.minus-outside.ensures
          ∙ row_of-cong 4 _ _ (λ q h. ap₂ (λ (x y : Bool). x && not y) (set-in _ seen q h) (set-in _ inside q h));
      whole_is = λ e q h. sym (set-in _ seen q h) ∙ c.is_whole-whole.ensures e q h;
      actions-is = c.actions_of-actions.ensures ∙ ap (λ (l : List ℕ). cond (any_below 256 (in_row c.args.shared)) (actions_entering c.args.rows.now (in_row l)) (get_or c.args.rows.now c.args.b 0)) c.watched.ensures;
    }
