-- `relation::check_preorder` meets its contract: by the answers of the three tests. Assumes nothing.
use mathlib.Core.Path.{refl, sym, ◌∙◌}
use Rattle.lts.proofs.Rule.{After, stop, pass, done, check-refused, check-passed}
use Rattle.relation.specs.Check.{start_rules}
use Rattle.relation.proofs.Checks.{matrix-test}
use mathlib.Core.Path.{ap}
use mathlib.Core.Bool.{not}
use Rattle.relation.proofs.check_preorder.Goals.{Else-not-is_matrix, Else-not-is_reflexive}
use Rattle.relation.proofs.check_preorder.Goals as goal

pub returns-then-not-is_matrix : goal.returns-then-not-is_matrix
unfolding start_rules
returns-then-not-is_matrix c = check-refused _ (stop _ _ _ refl c.is_matrix.ensures (ap not c.if-not-is_matrix.true))

after-1 : (c : Else-not-is_matrix) → After 1 (start_rules c.args.n c.args.grid.now)
unfolding start_rules
after-1 c = pass _ _ _ refl c.is_matrix.ensures (ap not c.if-not-is_matrix.false)

pub is_reflexive-requires : goal.is_reflexive-requires
is_reflexive-requires c = (matrix-test _ _ (sym c.is_matrix.ensures ∙ c.if-not-is_matrix.false), c.requires)

pub returns-then-not-is_reflexive : goal.returns-then-not-is_reflexive
unfolding start_rules
returns-then-not-is_reflexive c = check-refused _ (stop _ _ _ (after-1 (goal.at.returns-then-not-is_reflexive c).Else-not-is_matrix) c.is_reflexive.ensures (ap not c.if-not-is_reflexive.true))

after-2 : (c : Else-not-is_reflexive) → (After 1 (start_rules c.args.n c.args.grid.now)) → After 2 (start_rules c.args.n c.args.grid.now)
unfolding start_rules
after-2 c a-after-1 = pass _ _ _ (a-after-1) c.is_reflexive.ensures (ap not c.if-not-is_reflexive.false)

pub is_transitive-requires : goal.is_transitive-requires
is_transitive-requires c = (matrix-test _ _ (sym c.is_matrix.ensures ∙ c.if-not-is_matrix.false), c.requires)

pub returns-then-not-is_transitive : goal.returns-then-not-is_transitive
unfolding start_rules
returns-then-not-is_transitive c = check-refused _ (stop _ _ _ (after-2 (goal.at.returns-then-not-is_transitive c).Else-not-is_reflexive (after-1 (goal.at.returns-then-not-is_transitive c).Else-not-is_matrix)) c.is_transitive.ensures (ap not c.if-not-is_transitive.true))

pub returns : goal.returns
unfolding start_rules
returns c = check-passed _ (done (pass _ _ _ (after-2 (goal.at.returns c).Else-not-is_reflexive (after-1 (goal.at.returns c).Else-not-is_matrix)) c.is_transitive.ensures (ap not c.if-not-is_transitive.false)))
