-- `relation::relates` meets its contract: the pair's word lies within the matrix. Assumes nothing.
use mathlib.Core.Path.{ap, ◌∙◌, subst⁻¹}
use Prim.Native.Nat.{ℕ, ◌+◌, ◌*◌, ◌/◌, ◌<◌}
use lib.ListN.{length}
use Rattle.relation.specs.Matrix.{in_matrix}
use Rattle.relation.proofs.Matrices.{pair-word}
use Rattle.relation.proofs.relates.Goals as goal

pub has-requires : goal.has-requires
has-requires c =
    subst⁻¹ (λ (w : ℕ). c.args.p * w + c.args.q / 64 < length c.args.grid.now) c.row_words.ensures (pair-word c.args.n c.args.grid.now c.requires.2 c.requires.3 c.requires.0)

pub returns : goal.returns
returns c =
    c.has.ensures ∙ ap (λ (w : ℕ). in_matrix w c.args.grid.now c.args.p c.args.q) c.row_words.ensures
