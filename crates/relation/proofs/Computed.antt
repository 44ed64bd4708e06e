-- The definitions, computed on small cases.
use mathlib.Core.Path.{◌≡◌, refl}
use mathlib.Core.List.{List, [], ◌∷◌}
use Prim.Native.Nat.{ℕ}
use lib.Dec.{leb}
use Rattle.lts.specs.Bounded.{◌⇒◌, all_below, sum_below, count_below, list_below}
use Rattle.lts.specs.Rule.{broken, checked, check}
use Rattle.lts.specs.declared.Refusal.TheVariants.{Grid, NotReflexive, NotTransitive}
use Rattle.rows.specs.Rows.{bit, in_row, word_of, word_at}
use Rattle.relation.specs.Matrix.{in_matrix, matrix_of, relation_of, pair_count}
use Rattle.relation.specs.Check.{is_matrix, reflexive_below, transitive_below, transitive_at, transitive_pair, start_rules}
use Rattle.std.specs.Prelude.{Ok, Err}

-- the set of state 1 alone
terminating : List ℕ
terminating = 2 ∷ 0 ∷ 0 ∷ 0 ∷ []

-- state 1 terminates: it is related to itself alone, and every state to every other
termination : matrix_of 3 (λ p q. in_row terminating p ⇒ in_row terminating q) ≡ 7 ∷ 2 ∷ 7 ∷ []
unfolding matrix_of list_below word_at word_of in_row bit terminating
termination = refl

pairs : pair_count 3 (relation_of 3 (7 ∷ 2 ∷ 7 ∷ [])) ≡ 7
unfolding pair_count count_below sum_below in_matrix bit
pairs = refl

-- bit 3 is no state's; state 0 is not related to itself; 0 to 1 and 1 to 2, but not 0 to 2
preorder : check (start_rules 3 (7 ∷ 2 ∷ 7 ∷ [])) ≡ Ok tt
unfolding check start_rules broken checked is_matrix reflexive_below transitive_below transitive_at transitive_pair all_below in_matrix bit
preorder = refl

stray : check (start_rules 3 (7 ∷ 2 ∷ 15 ∷ [])) ≡ Err Grid
unfolding check start_rules broken checked is_matrix reflexive_below transitive_below transitive_at transitive_pair all_below in_matrix bit
stray = refl

short : check (start_rules 3 (7 ∷ 2 ∷ [])) ≡ Err Grid
unfolding check start_rules broken checked is_matrix reflexive_below transitive_below transitive_at transitive_pair all_below in_matrix bit
short = refl

irreflexive : check (start_rules 3 (6 ∷ 2 ∷ 7 ∷ [])) ≡ Err NotReflexive
unfolding check start_rules broken checked is_matrix reflexive_below transitive_below transitive_at transitive_pair all_below in_matrix bit
irreflexive = refl

intransitive : check (start_rules 3 (3 ∷ 6 ∷ 4 ∷ [])) ≡ Err NotTransitive
unfolding check start_rules broken checked is_matrix reflexive_below transitive_below transitive_at transitive_pair all_below in_matrix bit
intransitive = refl

-- two words a row
wide : pair_count 70 (relation_of 70 (matrix_of 70 leb)) ≡ 2485
unfolding pair_count count_below sum_below in_matrix bit matrix_of list_below word_at word_of
wide = refl
