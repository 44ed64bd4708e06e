-- `strategy_rounds::refute_in` meets its contract: the search starts from a copy. Assumes nothing.
use mathlib.Core.Path.{◌∙◌, ap, subst, subst⁻¹}
use mathlib.Core.List.{List}
use Prim.Native.Nat.{ℕ}
use lib.ListN.{length}
use Rattle.transitions.specs.Table.{states_of, table_lts}
use Rattle.relation.specs.Matrix.{relation_of, Matrix}
use Rattle.strategy_rounds.specs.Rounds.{RefutationOf}
use Rattle.strategy_rounds.proofs.refute_in.Goals as goal

pub copy_matrix-requires : goal.copy_matrix-requires
copy_matrix-requires c = c.requires.start_len.0

pub search_rounds-requires : goal.search_rounds-requires
search_rounds-requires c = let copy = c.copy_matrix.ensures in
    record { formed = (c.requires.formed.0, subst⁻¹ (Matrix (states_of c.args.table.now)) copy c.requires.formed.1, ap length copy ∙ c.requires.start_len.1); p_bound = (c.requires.formed.2, c.requires.formed.3) }

pub returns : goal.returns
returns c = let t = c.args.table.now in
    subst (λ (l : List ℕ). RefutationOf (table_lts t) (relation_of (states_of t) l) c.args.p c.args.q c.search_rounds.result) c.copy_matrix.ensures c.search_rounds.ensures
