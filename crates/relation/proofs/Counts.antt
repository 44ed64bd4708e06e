-- The ones of a matrix's words are its pairs. Assumes nothing.
use mathlib.Core.Path.{◌≡◌, sym, ap, ◌∙◌}
use mathlib.Core.List.{List}
use Prim.Native.Nat.{ℕ, ◌*◌, ◌^◌, ◌<◌}
use native.Mathlib.Omega.{arith}
use lib.Count.{ones}
use lib.ListN.{get_or}
use Rattle.std.specs.List.{sum_by}
use Rattle.lts.specs.Bounded.{sum_below, count_below}
use Rattle.lts.proofs.Below.{sum-cong, sum-mul}
use Rattle.rows.specs.Rows.{bit, digit, row_words}
use Rattle.rows.proofs.Counts.{ones-count, count-shorter}
use Rattle.relation.specs.Matrix.{relation_of, Matrix, pair_count}
use Rattle.relation.proofs.Matrices.{in_matrix-at}
use Rattle.relation.proofs.Places.{sum-places}

pub bits-pairs : (n : ℕ) (g : List ℕ) → Matrix n g → sum_below (n * row_words n) (λ j. count_below 64 (bit (get_or g j 0))) ≡ pair_count n (relation_of n g)
unfolding count_below pair_count
bits-pairs n g ok =
    sum-mul n w (λ j. count_below 64 (bit (get_or g j 0)))
    ∙ sum-cong n _ _ (λ p hp.
    sum-cong w _ _ (λ c hc. sum-cong 64 _ _ (λ i l. ap digit (sym (in_matrix-at w g p c i l))))
    ∙ sym (sum-mul w 64 (λ q. digit (relation_of n g p q)))
    ∙ count-shorter n (w * 64) (relation_of n g p) (omega arith) (λ q l r. ok.clear p q hp l r))
  where
    w : ℕ
    w = row_words n

pub ones-pairs : (n : ℕ) (g : List ℕ) → Matrix n g → ((j : ℕ) → get_or g j 0 < 2 ^ 64) → sum_by ones g ≡ pair_count n (relation_of n g)
ones-pairs n g ok small =
    sum-places ones g ∙ ap (λ (k : ℕ). sum_below k (λ j. ones (get_or g j 0))) ok.long ∙ sum-cong (n * row_words n) _ _ (λ j _. ones-count 64 (small j)) ∙ bits-pairs n g ok
