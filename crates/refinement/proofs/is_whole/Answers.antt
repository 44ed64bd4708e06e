-- `refinement::is_whole` meets its contract: two sets that do not differ are the same. Assumes nothing.
use mathlib.Core.Path.{sym, ◌∙◌}
use Prim.Native.Nat.{◌≤◌}
use native.Mathlib.Omega.{arith}
use Rattle.lts.proofs.Count.{count_most}
use Rattle.rows.specs.Rows.{in_row}
use Rattle.sets.proofs.Lists.{same-sets}
use borrow.Author.Rules.{rules}
use Rattle.refinement.proofs.is_whole.Goals as goal

pub overflow_mul-result : goal.overflow_mul-result
overflow_mul-result c = let few : c.row_count.result ≤ 256 = omega (arith, c.row_count.ensures, count_most 256 (in_row c.args.inside)) in search rules

pub returns : goal.returns
returns c = λ e q h. same-sets _ _ (sym c.differ.ensures ∙ c.if-differ.false) q h
