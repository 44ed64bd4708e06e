-- `partition::write_names` meets its contract. Assumes nothing.
use mathlib.Core.Path.{◌≡◌, refl, ap, ◌∙◌}
use mathlib.Core.Bool.{Bool}
use mathlib.Core.List.{List}
use Prim.Native.Nat.{ℕ, ◌<◌}
use native.Mathlib.Omega.{arith}
use lib.ListN.{set}
use Rattle.lts.specs.Bounded.{list_below, lowest}
use Rattle.relation.specs.Matrix.{relation_of}
use Rattle.lts.proofs.Below.{fill_more, lowest-lt}
use Rattle.relation.proofs.Checks.{row-lowest}
use Rattle.partition.proofs.write_names.Goals.{After-lowest_state-low}
use Rattle.partition.proofs.write_names.Goals as goal

pub loop-p-init : goal.loop-p-init
unfolding list_below
loop-p-init c = refl

-- the name of p
module _ (c : After-lowest_state-low) where
  abbrev row : ℕ → Bool
  row = relation_of c.args.n c.args.blocks.now c.loop-p.p

  abbrev size : ℕ
  size = c.args.n

  name : c.lowest_state-low.result ≡ lowest size row
  name =
      let p = c.loop-p.p in
      let l : p < size = omega (arith, c.loop-p-test.true, c.requires.3) in
      c.lowest_state-low.ensures ∙ row-lowest size c.args.blocks.now p p c.row_words-w.ensures c.row_at.ensures l l (c.requires.2.loop p l)

  name_below : lowest size row < size
  name_below =
      let p = c.loop-p.p in
      let l : p < size = omega (arith, c.loop-p-test.true, c.requires.3) in
      lowest-lt size row p l (c.requires.2.loop p l)

pub overflow_cast-name : goal.overflow_cast-name
overflow_cast-name c = omega (arith, name c, name_below c)

pub loop-p-preserved : goal.loop-p-preserved
loop-p-preserved c =
    ap (λ (l : List ℕ). set l c.loop-p.p c.lowest_state-low.result) c.loop-p.invariant ∙ fill_more c.loop-p.p _ _ (omega arith) (name c)
