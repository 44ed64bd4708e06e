-- Tests of matrices and of relations on the states below n (document 01, "Grids", and refusals 8 to 10).
use Rattle.std.specs.Prelude.{Bool, not, ◌&&◌, ◌||◌, List, [], ◌∷◌, ℕ, ◌*◌, eqb, ltb, length}
use Rattle.lts.specs.Bounded.{◌⇒◌, all_below}
use Rattle.lts.specs.System.{Rel}
use Rattle.lts.specs.Rule.{Rule, ◌otherwise◌}
use Rattle.lts.specs.declared.Refusal.TheVariants.{Grid, NotReflexive, NotTransitive}
use Rattle.rows.specs.Rows.{row_words}
use Rattle.relation.specs.Matrix.{relation_of}

-- reflexive and transitive on the states below n, the latter at one pair, for one state, and for all
unfoldable pub reflexive_below : ℕ → Rel → Bool
reflexive_below n R = all_below n (λ p. R p p)

unfoldable pub transitive_pair : ℕ → Rel → ℕ → ℕ → Bool
transitive_pair n R p q = all_below n (λ r. R p q && R q r ⇒ R p r)

unfoldable pub transitive_at : ℕ → Rel → ℕ → Bool
transitive_at n R p = all_below n (transitive_pair n R p)

unfoldable pub transitive_below : ℕ → Rel → Bool
transitive_below n R = all_below n (transitive_at n R)

-- row p has no bit at q ≥ n
abbrev pub clear_at : ℕ → List ℕ → ℕ → Bool
clear_at n g p = all_below (row_words n * 64) (λ q. ltb q n || not (relation_of n g p q))

-- n rows of w words, and no bit at q ≥ n
unfoldable pub is_matrix : ℕ → List ℕ → Bool
is_matrix n g = eqb (length g) (n * row_words n) && all_below n (clear_at n g)

-- the rules of a start, in the order of document 01's table: 8, 9, 10
unfoldable pub start_rules : ℕ → List ℕ → List Rule
start_rules n g =
    is_matrix n g otherwise Grid
    ∷ reflexive_below n (relation_of n g) otherwise NotReflexive
    ∷ transitive_below n (relation_of n g) otherwise NotTransitive
    ∷ []
